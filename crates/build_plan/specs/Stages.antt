-- The stages of a plan (own): each is what is defined for the nodes that the one before it leaves.
use Rattle.std.specs.Prelude.{◌≡◌, ℕ, List, [], Option, Some, None, Result, slice_get, if◌then◌else◌}
use Rattle.std.specs.Result.{result_map_both}
use Rattle.dita_doc.specs.declared.content.Rule.{Rule}
use Rattle.dita_doc.specs.declared.plan.Expanded.{Expanded}
use Rattle.dita_doc.specs.declared.plan.PlanKind.TheVariants as kinds
use Rattle.dita_doc.specs.declared.plan.PlanNode.{PlanNode}
use Rattle.dita_doc.specs.declared.plan.PlanStop.{PlanStop}
use Rattle.dita_doc.specs.declared.plan.PlanStop.TheVariants as stops
use Rattle.map_spec.specs.Branches.{branched}
use Rattle.map_spec.specs.Cascade.{cascaded}
use Rattle.map_spec.specs.Included.{included, is_map, map_node_limit}
use Rattle.map_spec.specs.Judged.{filtered}
use Rattle.map_spec.specs.MapTree.{Grown, Head, MapTree, MapNode, NoNodes, plan_nodes, with_faults}
use Rattle.map_spec.specs.PlanOf.{then_plan}
use Rattle.map_spec.specs.Written.{Whole}
use Rattle.reader_spec.specs.World.{World}

-- why there is no map at a root, if there is none
abbrev pub map_stop : Option Whole → Option PlanStop
map_stop None = Some stops.NoMap
map_stop (Some root) = if is_map root then None else Some stops.NotMap

-- a map with its submaps, filtered
abbrev pub judged_map : World → List Rule → Grown → Grown
judged_map world rules grown = with_faults grown.faults (filtered world rules grown.tree)

-- and with its branches copied
abbrev pub branched_map : World → Grown → Result Grown PlanStop
branched_map world judged = result_map_both (with_faults judged.faults) (λ stop. stop) (branched map_node_limit world judged.tree)

abbrev pub copied_map : World → List Rule → List ℕ → Result Grown PlanStop
copied_map world rules map =
    then_plan (included map_node_limit world map) (λ grown. branched_map world (judged_map world rules grown))

-- and cascaded
abbrev pub cascaded_map : World → Grown → Expanded
cascaded_map world grown = record { nodes = cascaded world (plan_nodes grown.tree); faults = grown.faults }

-- a tree of a map: its root alone at the top
pub record IsMapTree (tree : MapTree) : Type 0 where
  pub head : Head
  pub below : MapTree
  pub is : tree ≡ MapNode head below NoNodes
  pub kind : head.kind ≡ kinds.Map

-- the nodes of such a tree
pub record AreMapNodes (nodes : List PlanNode) : Type 0 where
  pub tree : MapTree
  pub map : IsMapTree tree
  pub are : nodes ≡ plan_nodes tree

-- nodes that no DITAVAL filters yet
pub record AreNew (nodes : List PlanNode) : Type 0 where
  pub each : (at : ℕ) (node : PlanNode) → slice_get nodes at ≡ Some node → node.filters ≡ []
