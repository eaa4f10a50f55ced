use Rattle.language_laws.proofs.NodeLaws.{plan_kept}
use Rattle.language_laws.proofs.excluded_nodes_go.Goals as goal

pub returns : goal.returns
returns c = plan_kept
