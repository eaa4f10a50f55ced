use Rattle.conref_push.proofs.DocLaws.{known_none}
use Rattle.pushed_docs.specs.Made.{ArePushed, IsPushed}
use Rattle.pushed_docs.proofs.memo.PushedMemo.new.Goals as goal

pub returns : goal.returns
unfolding ArePushed
returns c = λ told documents. known_none (IsPushed told documents) c.new.result c.new.ensures.empty
