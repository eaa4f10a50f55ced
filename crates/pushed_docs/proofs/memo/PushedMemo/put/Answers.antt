use Rattle.std.proofs.Common.{sym}
use Rattle.conref_push.proofs.DocLaws.{known_put}
use Rattle.pushed_docs.specs.Made.{ArePushed, IsPushed}
use Rattle.pushed_docs.proofs.MadeLaws.{known_same, put_under}
use Rattle.pushed_docs.proofs.memo.PushedMemo.put.Goals as goal

pub returns-clause-made : goal.returns-clause-made
unfolding ArePushed
returns-clause-made c = λ told documents made is. known_put (IsPushed told documents) c.args.self.now.docs c.insert.new.self
    c.args.name.now c.in_ok-clone.field-0 c.args.found c.in_ok-insert.ensures.updates.0 c.in_ok-clone.ensures.cases is
    made

pub returns-in_err-insert-clause-made : goal.returns-in_err-insert-clause-made
unfolding ArePushed
returns-in_err-insert-clause-made c = λ told documents made is. known_same (IsPushed told documents)
    c.args.self.now.docs c.insert.new.self (sym c.in_err-insert.ensures.err) made

pub returns-clause-ok : goal.returns-clause-ok
returns-clause-ok c = put_under c.args.self.now.docs c.insert.new.self c.args.name.now c.in_ok-clone.field-0
    c.args.found c.in_ok-insert.ensures.updates.0 c.in_ok-clone.ensures.cases
