-- The form of a plan's nodes (own): a tree as a list, each node before those below it.
use Rattle.std.specs.Prelude.{◌≡◌, ◌<◌, ◌≤◌, ℕ, List, Some, IfSome, length, slice_get}
use Rattle.dita_doc.specs.declared.plan.PlanNode.{PlanNode}

-- a node other than the first stands behind its parent and within its parent's end; its own end is behind it, and every node
-- in between stands below it
pub record StandsBelow (nodes : List PlanNode) (at : ℕ) (node : PlanNode) : Type 0 where
  pub parent : node.parent < at
  pub own : at < node.end
  pub within : IfSome (slice_get nodes node.parent) (λ parent. node.end ≤ parent.end)

pub record IsPlanTree (nodes : List PlanNode) : Type 0 where
  pub any : 0 < length nodes
  pub first : IfSome (slice_get nodes 0) (λ node. (node.parent ≡ 0) × (node.end ≡ length nodes))
  pub each : (at : ℕ) (node : PlanNode) → 0 < at → slice_get nodes at ≡ Some node → StandsBelow nodes at node
  pub below : (at : ℕ) (node : PlanNode) → slice_get nodes at ≡ Some node
      → (other : ℕ) (inside : PlanNode) → at < other → other < node.end → slice_get nodes other ≡ Some inside
      → at ≤ inside.parent
