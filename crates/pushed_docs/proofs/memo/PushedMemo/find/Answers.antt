use Rattle.pushed_docs.specs.Made.{ArePushed, IsPushed}
use Rattle.pushed_docs.proofs.MadeLaws.{known_found}
use Rattle.pushed_docs.proofs.memo.PushedMemo.find.Goals as goal

pub returns-clause-made : goal.returns-clause-made
unfolding ArePushed
returns-clause-made c = λ told documents pushed. known_found (IsPushed told documents) c.args.self.now.docs
    c.args.name.now _ c.get.ensures.value pushed
