-- The nodes of a map that rules leave, by the tree of the map.
use Rattle.std.specs.Prelude.{◌≡◌, List}
use Rattle.dita_doc.specs.declared.content.Rule.{Rule}
use Rattle.dita_doc.specs.declared.plan.Expanded.{Expanded}
use Rattle.dita_doc.specs.declared.plan.PlanNode.{PlanNode}
use Rattle.map_spec.specs.Included.{expanded}
use Rattle.map_spec.specs.Judged.{filtered}
use Rattle.map_spec.specs.MapTree.{MapTree, plan_nodes}
use Rattle.plan_nodes.specs.Preorder.{HasOneRoot}
use Rattle.reader_spec.specs.World.{World}

-- of the nodes of a tree with one root, those of the filtered tree are left, with its faults
abbrev pub IsFiltered : World → List Rule → List PlanNode → Expanded → Type 0
IsFiltered world rules nodes made = (tree : MapTree) → nodes ≡ plan_nodes tree → HasOneRoot tree
    → made ≡ expanded (filtered world rules tree)
