use Rattle.std.proofs.Common.{◌∙◌}
use Rattle.node_links.proofs.table.NodeLinks.faults.Goals as goal

pub returns : goal.returns
returns c = λ world plan are. c.as_slice.ensures ∙ are.faults
