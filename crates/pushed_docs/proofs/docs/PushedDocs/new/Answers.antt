use Rattle.pushed_docs.proofs.KeptLaws.{kept_none}
use Rattle.pushed_docs.proofs.docs.PushedDocs.new.Goals as goal

pub returns : goal.returns
returns c = λ world documents. kept_none world documents _ c.new.ensures.empty c.new-2.ensures.empty
