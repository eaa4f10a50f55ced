-- The nodes of ditavalrefs, of a map that rules have filtered, stand for ditavalrefs.
use Rattle.std.specs.Prelude.{◌≡◌, ℕ, Bool, true, false, List, Option, Some, None, Ok, map, option_map, slice_get, if◌then◌else◌}
use Rattle.std.specs.Option.{option_and_then}
use Rattle.std.specs.Result.{result_map_both}
use Rattle.std.proofs.Common.{sym, ap, subst, ◌∙◌}
use Rattle.std.proofs.lemmas.Option.{slice_get-map}
use Rattle.dita_doc.specs.declared.content.Rule.{Rule}
use Rattle.dita_doc.specs.declared.plan.Expanded.{Expanded}
use Rattle.dita_doc.specs.declared.plan.PlanNode.{PlanNode}
use Rattle.map_spec.specs.Cascade.{whole_at}
use Rattle.map_spec.specs.Included.{expanded, included, map_node_limit}
use Rattle.map_spec.specs.Judged.{filtered, has_element}
use Rattle.map_spec.specs.MapTree.{Grown, plan_nodes}
use Rattle.map_spec.specs.Written.{Whole, element_in}
use Rattle.reader_spec.specs.World.{World}
use Rattle.plan_nodes.specs.Home as home
use Rattle.map_lemmas.proofs.StandingLaws.{a_ditavalref, node_filtered}
use Rattle.branch_copies.specs.Ditavalrefs.{AreDitavalrefs}
use Rattle.build_plan.specs.Stages.{judged_map}
use Rattle.build_plan.proofs.FoundLaws.{some_of}

-- an element that was found for a node is that at its place
element_by : (world : World) (node : PlanNode) (test : Bool) (whole : Whole)
    → (if test then element_in world node.doc node.place else None) ≡ Some whole
    → element_in world node.doc node.place ≡ Some whole
element_by world node true whole is = is
element_by world node false whole is = cc

element_of : (world : World) (nodes : List PlanNode) (at : ℕ) (node : PlanNode) (whole : Whole)
    → slice_get nodes at ≡ Some node → home.whole_at (map (whole_at world) nodes) at ≡ Some whole
    → element_in world node.doc node.place ≡ Some whole
element_of world nodes at node whole here is =
    let there : slice_get (map (whole_at world) nodes) at ≡ Some (whole_at world node) =
    slice_get-map (whole_at world) nodes at ∙ ap (option_map (whole_at world)) here in
    let own : whole_at world node ≡ Some whole =
    sym (ap (option_and_then (λ (found : Option Whole). found)) there) ∙ is in
    element_by world node (has_element node.kind) whole own

pub are_ditavalrefs : (world : World) (rules : List Rule) (name : List ℕ) (made : Expanded)
    → result_map_both (λ (grown : Grown). expanded (judged_map world rules grown)) (λ e. e)
    (included map_node_limit world name) ≡ Ok made
    → AreDitavalrefs (map (whole_at world) made.nodes) made.nodes
are_ditavalrefs world rules name made given =
    let before = some_of (λ (grown : Grown). expanded (judged_map world rules grown)) (included map_node_limit world name) made
    given in
    let nodes : made.nodes ≡ plan_nodes (filtered world rules before.value.tree).tree =
    ap (λ (m : Expanded). m.nodes) (sym before.gives) in
    record {
      each = λ at node whole here kind is. a_ditavalref world node.kind node.doc node.place whole
          (node_filtered map_node_limit world rules name before.value before.is at node
          (subst (λ all. slice_get all at ≡ Some node) nodes here))
          kind (element_of world made.nodes at node whole here is);
    }
