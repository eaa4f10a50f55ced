-- The walk from a node begins with it; and the value that its element has.
use Rattle.std.specs.Prelude.{◌≡◌, ◌+◌, ◌==◌, ℕ, suc, List, [], ◌∷◌, Some, slice_get, if◌then◌else◌}
use Rattle.std.specs.List.{filter_map}
use Rattle.std.specs.Option.{option_map_or}
use Rattle.std.proofs.Common.{ap, ◌∙◌, arith}
use Rattle.dita_doc.specs.declared.plan.PlanNode.{PlanNode}
use Rattle.map_spec.specs.Cascade.{steps_up, walk}
use Rattle.plan_nodes.proofs.PlaceLaws.{seen_here}

-- a walk begins with its node
pub record Begins (nodes : List PlanNode) (at : ℕ) (node : PlanNode) : Type 0 where
  pub others : List PlanNode
  pub is : walk nodes at ≡ node ∷ others

pub walk_begins : (nodes : List PlanNode) (at : ℕ) (node : PlanNode) → slice_get nodes at ≡ Some node
    → Begins nodes at node
walk_begins nodes at node is =
    let more : at + 1 ≡ suc at = omega arith in
    let above = if at == 0 then [] else option_map_or (λ (n : PlanNode). steps_up at nodes n.parent) (slice_get nodes at) [] in
    record {
      others = filter_map (slice_get nodes) above;
      is =
          ap (λ steps. filter_map (slice_get nodes) (steps_up steps nodes at)) more ∙ seen_here nodes at node is above;
    }
