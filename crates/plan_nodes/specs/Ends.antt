-- Ends by the nodes below (own): from the last node to the first, each ends just behind its own place or where the last
-- node below it ends, and so does its parent, if that stands before it.
use Rattle.std.specs.Prelude.{◌+◌, ℕ, zero, suc, List, [], ◌∷◌, max, nat_lt, slice_get, if◌then◌else◌}
use Rattle.std.specs.Option.{option_map_or}
use Rattle.dita_doc.specs.declared.plan.PlanNode.{PlanNode}

-- the node at a place ends here, or later
abbrev pub raised : ℕ → ℕ → List PlanNode → List PlanNode
raised at end [] = []
raised zero end (node ∷ nodes) = record node { end = max node.end end } ∷ nodes
raised (suc at) end (node ∷ nodes) = node ∷ raised at end nodes

abbrev pub parent_raised : ℕ → List PlanNode → PlanNode → List PlanNode
parent_raised at nodes node = if nat_lt node.parent at then raised node.parent node.end nodes else nodes

abbrev pub parent_of_raised : ℕ → List PlanNode → List PlanNode
parent_of_raised at nodes = option_map_or (parent_raised at nodes) (slice_get nodes at) nodes

abbrev pub ended : ℕ → List PlanNode → List PlanNode
ended at nodes = parent_of_raised at (raised at (at + 1) nodes)

-- so from the last of these places to the first
abbrev pub ended_before : ℕ → List PlanNode → List PlanNode
ended_before zero nodes = nodes
ended_before (suc at) nodes = ended_before at (ended at nodes)
