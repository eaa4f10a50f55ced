-- Where a tree stands among nodes (own): each of its nodes at its place, behind its parent.
use Rattle.std.specs.Prelude.{◌≡◌, ◌+◌, ℕ, Bool, false, List, Option, Some, None, length, max, min, slice_get, if◌then◌else◌}
use Rattle.std.specs.Option.{option_map_or}
use Rattle.dita_doc.specs.declared.plan.PlanNode.{PlanNode}
use Rattle.map_spec.specs.Branches.{is_ditavalref, is_map_node}
use Rattle.map_spec.specs.MapTree.{MapTree, MapNode, NoNodes, count, node_of}

abbrev pub StandsAt : List PlanNode → ℕ → ℕ → MapTree → Type 0
StandsAt nodes parent at NoNodes = Unit {0}
StandsAt nodes parent at (MapNode head below more) =
    (slice_get nodes at ≡ Some (node_of head parent (at + 1 + count below)))
    × StandsAt nodes at (at + 1) below × StandsAt nodes parent (at + 1 + count below) more

-- the place of the first map among nodes, of which the first stands here
abbrev pub first_map : ℕ → MapTree → Option ℕ
first_map at NoNodes = None
first_map at (MapNode head below more) =
    if is_map_node head.kind then Some at else first_map (at + 1 + count below) more

-- where the subtree at a place ends, within the nodes, and where its next sibling stands
abbrev pub end_at : List PlanNode → ℕ → ℕ
end_at nodes at = option_map_or (λ (node : PlanNode). min node.end (length nodes)) (slice_get nodes at) 0

abbrev pub next_at : List PlanNode → ℕ → ℕ
next_at nodes at = max (end_at nodes at) (at + 1)

abbrev pub is_map_at : List PlanNode → ℕ → Bool
is_map_at nodes at = option_map_or (λ (node : PlanNode). is_map_node node.kind) (slice_get nodes at) false

abbrev pub is_ditavalref_at : List PlanNode → ℕ → Bool
is_ditavalref_at nodes at = option_map_or (λ (node : PlanNode). is_ditavalref node.kind) (slice_get nodes at) false

-- what is left of the nodes below a node: some of them were passed over, and none of these was a map
pub record IsLeft (nodes : List PlanNode) (at end child : ℕ) (below : MapTree) : Type 0 where
  pub left : MapTree
  pub stands : StandsAt nodes at child left
  pub ends : child + count left ≡ end
  pub same : first_map child left ≡ first_map (at + 1) below
