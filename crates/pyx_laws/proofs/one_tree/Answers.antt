use Rattle.pyx_text.proofs.PyxLaws.{one_tree}
use Rattle.pyx_laws.proofs.one_tree.Goals as goal

pub returns : goal.returns
returns c = one_tree
