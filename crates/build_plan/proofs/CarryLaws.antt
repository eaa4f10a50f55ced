-- Nodes in their scopes carry their values, and stand as they stood.
use Rattle.std.specs.Prelude.{◌≡◌, ◌<◌, ℕ, List, Option, Some, None, map, option_map, slice_get}
use Rattle.std.proofs.Common.{refl, sym, ap, subst, ◌∙◌}
use Rattle.std.proofs.lemmas.Option.{slice_get-map}
use Rattle.dita_doc.specs.declared.plan.PlanNode.{PlanNode}
use Rattle.key_scopes.specs.Made.{IsTableOf}
use Rattle.key_scopes.specs.Table.{Table}
use Rattle.map_spec.specs.MapTree.{plan_nodes}
use Rattle.map_spec.specs.Scopes.{scoped}
use Rattle.map_spec.specs.Written.{Whole}
use Rattle.map_lemmas.proofs.AlikeLaws.{same_shapes}
use Rattle.map_lemmas.proofs.CarriedLaws.{alike_scoped, scoped_carry, scoped_keep}
use Rattle.key_scopes.proofs.ScopedLaws.{table_of_scoped}
use Rattle.plan_nodes.specs.Carried.{CarryScopes, CarryValues}
use Rattle.plan_nodes.specs.Preorder.{HasParentsBefore, IsTree, shape}
use Rattle.plan_nodes.proofs.PreorderLaws.{tree_has_parents}
use Rattle.reader_spec.specs.World.{World}
use Rattle.readers.specs.Founded.{Grows, homes}
use Rattle.readers.specs.Told.{Told}
use Rattle.readers.proofs.GrowthLaws.{agrees_before}
use Rattle.key_layer.specs.Ready.{AreReady}
use Rattle.plan_nodes.proofs.GivenLaws.{told_later}
use Rattle.build_plan.proofs.HomeLaws.{homes_alike}

pub homes_scoped : (nodes made : List PlanNode) → made ≡ scoped nodes → homes made ≡ homes nodes
homes_scoped nodes made are = ap homes are ∙ sym (homes_alike nodes (scoped nodes) (alike_scoped nodes))

-- parents stand before, by the shapes of nodes alone
some_parent : (found other : Option PlanNode) (node : PlanNode) → option_map shape found ≡ option_map shape other
    → found ≡ Some node → (at : ℕ) → ((more : PlanNode) → other ≡ Some more → more.parent < at) → node.parent < at
some_parent None other node same is at before = cc
some_parent (Some first) None node same is at before = cc
some_parent (Some first) (Some more) node same is at before =
    let here : first ≡ node = cc in
    let shapes : shape first ≡ shape more = cc in
    let parents : first.parent ≡ more.parent = ap (λ s. s.0) shapes in
    subst (λ n. n < at) (sym parents ∙ ap (λ (n : PlanNode). n.parent) here) (before more refl)

pub parents_by : (nodes others : List PlanNode) → map shape nodes ≡ map shape others → HasParentsBefore others
    → HasParentsBefore nodes
parents_by nodes others same parents = λ at node after is.
    some_parent (slice_get nodes at) (slice_get others at) node
    (sym (slice_get-map shape nodes at) ∙ ap (λ all. slice_get all at) same ∙ slice_get-map shape others at)
    is at (λ more there. parents at more after there)

pub parents_scoped : (nodes made : List PlanNode) → made ≡ scoped nodes → IsTree nodes → HasParentsBefore made
parents_scoped nodes made are tree = parents_by made (plan_nodes tree.tree)
    (ap (map shape) are ∙ sym (same_shapes nodes (scoped nodes) (alike_scoped nodes)) ∙ tree.is)
    (tree_has_parents tree.tree)

pub values_scoped : (world : World) (nodes made : List PlanNode) → made ≡ scoped nodes → CarryValues world nodes
    → CarryValues world made
values_scoped world nodes made are carry =
    subst (CarryValues world) (sym are) (record { each = scoped_keep world nodes carry.each })

pub scopes_scoped : (nodes made : List PlanNode) → made ≡ scoped nodes → CarryScopes made
scopes_scoped nodes made are = subst CarryScopes (sym are) (record { each = scoped_carry nodes })

-- the table is also that of the nodes in their scopes
pub table_scoped : (world : World) (nodes made : List PlanNode) (table : Table) → made ≡ scoped nodes
    → IsTableOf world nodes table → IsTableOf world made table
table_scoped world nodes made table are is =
    subst (λ n. IsTableOf world n table) (sym are) (table_of_scoped world nodes table is)

-- what is known of nodes goes on to hold
pub ready_later : (old new : List Told) (nodes : List PlanNode) (elements : List (Option Whole)) → Grows old new
    → AreReady old nodes elements → AreReady new nodes elements
ready_later old new nodes elements grows ready = record {
  elements = λ world agrees. ready.elements world (agrees_before world old new grows agrees);
  values = λ world agrees. ready.values world (agrees_before world old new grows agrees);
  scopes = ready.scopes;
  given = told_later old new elements grows ready.given;
}
