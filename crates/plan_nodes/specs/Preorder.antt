-- Nodes in preorder (own): each but the first behind its parent.
use Rattle.std.specs.Prelude.{◌≡◌, ◌<◌, ℕ, Bool, List, Some, map, slice_get}
use Rattle.dita_doc.specs.declared.plan.PlanNode.{PlanNode}
use Rattle.map_spec.specs.Cascade.{is_in_table, walk}
use Rattle.map_spec.specs.MapTree.{MapTree, MapNode, NoNodes, plan_nodes}
use Rattle.map_spec.specs.Scopes.{places}

abbrev pub HasParentsBefore : List PlanNode → Type 0
HasParentsBefore nodes = (at : ℕ) (node : PlanNode) → 0 < at → slice_get nodes at ≡ Some node → node.parent < at

-- whether the node at a place stands in a relationship table, or is one
abbrev pub is_in_table_at : List PlanNode → ℕ → Bool
is_in_table_at nodes at = is_in_table (walk nodes at)

-- the same for each place, in order
abbrev pub tables_around : List PlanNode → List Bool
tables_around nodes = map (is_in_table_at nodes) (places nodes)

-- a node but its end
abbrev pub without_end : PlanNode → PlanNode
without_end node = record node { end = 0 }

-- no node but the first stands below none
abbrev pub HasOneRoot : MapTree → Type 0
HasOneRoot NoNodes = Unit {0}
HasOneRoot (MapNode head below more) = more ≡ NoNodes

-- where a node stands, whatever it says
abbrev pub shape : PlanNode → ℕ × ℕ
shape node = (node.parent, node.end)

-- nodes that stand as those of a tree with one root do
pub record IsTree (nodes : List PlanNode) : Type 0 where
  pub tree : MapTree
  pub one : HasOneRoot tree
  pub is : map shape nodes ≡ map shape (plan_nodes tree)
