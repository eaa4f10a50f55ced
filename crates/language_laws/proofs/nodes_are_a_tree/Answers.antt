use Rattle.language_laws.proofs.PlanLaws.{plan_tree}
use Rattle.language_laws.proofs.nodes_are_a_tree.Goals as goal

pub returns : goal.returns
returns c = plan_tree
