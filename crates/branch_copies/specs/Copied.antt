-- The nodes of a map with its branches copied, by the tree of the map.
use Rattle.std.specs.Prelude.{◌≡◌, List, Result}
use Rattle.std.specs.Result.{result_map_both}
use Rattle.dita_doc.specs.Gives.{Gives}
use Rattle.dita_doc.specs.declared.plan.Expanded.{Expanded}
use Rattle.dita_doc.specs.declared.plan.PlanKind.TheVariants as kinds
use Rattle.dita_doc.specs.declared.plan.PlanNode.{PlanNode}
use Rattle.dita_doc.specs.declared.plan.PlanStop.{PlanStop}
use Rattle.dita_doc.specs.declared.plan.PlanStop.TheVariants as stops
use Rattle.dita_doc.specs.declared.stop.Stop.{Stop}
use Rattle.dita_doc.specs.declared.stop.Stop.TheVariants.{Fault, NoMemory}
use Rattle.map_spec.specs.Branches.{branched}
use Rattle.map_spec.specs.Included.{expanded, map_node_limit}
use Rattle.map_spec.specs.MapTree.{Head, MapTree, MapNode, NoNodes, plan_nodes}
use Rattle.reader_spec.specs.World.{World}

-- of the nodes of a map, the answer gives those with its branches copied, or that there are too many
abbrev pub AreCopied : World → List PlanNode → Result Expanded (Stop PlanStop) → Type 0
AreCopied world nodes result = (head : Head) (below : MapTree) → head.kind ≡ kinds.Map
    → nodes ≡ plan_nodes (MapNode head below NoNodes)
    → Gives result (result_map_both expanded (λ stop. stop)
    (branched map_node_limit world (MapNode head below NoNodes)))

-- the only fault, whatever was handed in
abbrev pub IsTooMany : Stop PlanStop → Type 0
IsTooMany (Fault stop) = stop ≡ stops.TooManyNodes
IsTooMany NoMemory = Unit {0}
