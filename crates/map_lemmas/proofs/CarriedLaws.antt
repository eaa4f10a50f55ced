-- Nodes with their values, and with the numbers of their scopes: they are like the nodes before, and carry what the
-- definitions say of themselves.
use Rattle.std.specs.Prelude.{◌≡◌, ◌+◌, ℕ, zero, suc, List, [], ◌∷◌, ◌++◌, Option, Some, None, map, option_map, slice_get}
use Rattle.std.proofs.Common.{refl, sym, ap, ◌∙◌, arith}
use Rattle.std.proofs.lemmas.Option.{none-some, same_Some}
use Rattle.dita_doc.specs.declared.doc.Attribute.{Attribute}
use Rattle.dita_doc.specs.declared.fault.Fault.{Fault}
use Rattle.dita_doc.specs.declared.plan.PlanNode.{PlanNode}
use Rattle.reader_spec.specs.World.{World}
use Rattle.map_spec.specs.Cascade.{cascaded, cascaded_from, cascaded_on, walk}
use Rattle.map_spec.specs.PlanOf.{plan_with}
use Rattle.map_spec.specs.Scopes.{scope_at, scoped, scoped_from}
use Rattle.map_lemmas.specs.Alike.{AreAlike, plain, shape}
use Rattle.map_lemmas.specs.Carried.{made, plan_holding, with_scope, with_values}
use Rattle.map_lemmas.proofs.AlikeLaws.{alike_both, same_shapes}
use Rattle.map_lemmas.proofs.PageLaws.{same_documents_of, same_page_faults, same_pages_of, same_targets_of}
use Rattle.map_lemmas.proofs.ScopeLaws.{same_name_faults, same_scope_at, same_scopes}
use Rattle.map_lemmas.proofs.WalkLaws.{same_values_at}

-- They are like the nodes before

-- from a place on, nodes with their values
alike_cascaded_from : (world : World) (all : List PlanNode) (at : ℕ) (nodes : List PlanNode)
    → AreAlike nodes (cascaded_from world all at nodes)
alike_cascaded_from world all at [] = refl
alike_cascaded_from world all at (node ∷ more) =
    ap (λ rest. plain node ∷ rest) (alike_cascaded_from world all (at + 1) more)

-- values make no node unlike itself
pub alike_cascaded : (world : World) (nodes : List PlanNode) → AreAlike nodes (cascaded world nodes)
alike_cascaded world nodes = alike_cascaded_from world nodes 0 nodes

-- and nodes with the numbers of their scopes
alike_scoped_from : (all : List PlanNode) (at : ℕ) (nodes : List PlanNode)
    → AreAlike nodes (scoped_from all at nodes)
alike_scoped_from all at [] = refl
alike_scoped_from all at (node ∷ more) = ap (λ rest. plain node ∷ rest) (alike_scoped_from all (at + 1) more)

-- nor do numbers of scopes
pub alike_scoped : (nodes : List PlanNode) → AreAlike nodes (scoped nodes)
alike_scoped nodes = alike_scoped_from nodes 0 nodes

-- the nodes of a plan are like those of its map
pub alike_made : (world : World) (nodes : List PlanNode) → AreAlike nodes (made world nodes)
alike_made world nodes =
    let values = cascaded world nodes in
    alike_both nodes values (scoped values) (alike_cascaded world nodes) (alike_scoped values)

-- and stand where those stand
pub made_shapes : (world : World) (nodes : List PlanNode)
    → map shape (made world nodes) ≡ map shape nodes
made_shapes world nodes = sym (same_shapes nodes (made world nodes) (alike_made world nodes))

-- The node at a place

-- counted from the first of some nodes, it has the values at its place
get_cascaded_from : (world : World) (all : List PlanNode) (from : ℕ) (nodes : List PlanNode) (at : ℕ)
    → slice_get (cascaded_from world all from nodes) at
    ≡ option_map (with_values (cascaded_on world (walk all (from + at)))) (slice_get nodes at)
get_cascaded_from world all from [] zero = refl
get_cascaded_from world all from [] (suc at) = refl
get_cascaded_from world all from (node ∷ nodes) zero =
    let here : from ≡ from + 0 = omega arith in
    ap (λ place. Some (with_values (cascaded_on world (walk all place)) node)) here
get_cascaded_from world all from (node ∷ nodes) (suc at) =
    let there : from + 1 + at ≡ from + suc at = omega arith in
    get_cascaded_from world all (from + 1) nodes at
    ∙ ap (λ place. option_map (with_values (cascaded_on world (walk all place))) (slice_get nodes at)) there

-- it has the values on its own walk
pub get_cascaded : (world : World) (nodes : List PlanNode) (at : ℕ) → slice_get (cascaded world nodes) at
    ≡ option_map (with_values (cascaded_on world (walk nodes at))) (slice_get nodes at)
get_cascaded world nodes at =
    let here : 0 + at ≡ at = omega arith in
    get_cascaded_from world nodes 0 nodes at
    ∙ ap (λ place. option_map (with_values (cascaded_on world (walk nodes place))) (slice_get nodes at)) here

-- the same for the number of its scope
get_scoped_from : (all : List PlanNode) (from : ℕ) (nodes : List PlanNode) (at : ℕ)
    → slice_get (scoped_from all from nodes) at
    ≡ option_map (with_scope (scope_at all (from + at))) (slice_get nodes at)
get_scoped_from all from [] zero = refl
get_scoped_from all from [] (suc at) = refl
get_scoped_from all from (node ∷ nodes) zero =
    let here : from ≡ from + 0 = omega arith in ap (λ place. Some (with_scope (scope_at all place) node)) here
get_scoped_from all from (node ∷ nodes) (suc at) =
    let there : from + 1 + at ≡ from + suc at = omega arith in
    get_scoped_from all (from + 1) nodes at
    ∙ ap (λ place. option_map (with_scope (scope_at all place)) (slice_get nodes at)) there

-- it has the number of its scope
pub get_scoped : (nodes : List PlanNode) (at : ℕ) → slice_get (scoped nodes) at
    ≡ option_map (with_scope (scope_at nodes at)) (slice_get nodes at)
get_scoped nodes at =
    let here : 0 + at ≡ at = omega arith in
    get_scoped_from nodes 0 nodes at
    ∙ ap (λ place. option_map (with_scope (scope_at nodes place)) (slice_get nodes at)) here

-- What each node carries

-- a node that was found with values carries them
values_of : (values : List Attribute) (found : Option PlanNode) (node : PlanNode)
    → option_map (with_values values) found ≡ Some node → node.cascaded ≡ values
values_of values None node is = absurd (none-some node is)
values_of values (Some first) node is =
    ap (λ (other : PlanNode). other.cascaded) (sym (same_Some (with_values values first) node is))

-- a node that was found with a number carries it
scope_of : (scope : ℕ) (found : Option PlanNode) (node : PlanNode)
    → option_map (with_scope scope) found ≡ Some node → node.scope ≡ scope
scope_of scope None node is = absurd (none-some node is)
scope_of scope (Some first) node is =
    ap (λ (other : PlanNode). other.scope) (sym (same_Some (with_scope scope first) node is))

-- a node with a scope has the values of the node before
before_scope : (scope : ℕ) (found : Option PlanNode) (node : PlanNode) → option_map (with_scope scope) found ≡ Some node
    → (first : PlanNode) × (found ≡ Some first) × (node.cascaded ≡ first.cascaded)
before_scope scope None node is = absurd (none-some node is)
before_scope scope (Some first) node is = (
  first,
  refl,
  ap (λ (other : PlanNode). other.cascaded) (sym (same_Some (with_scope scope first) node is)),
)

-- each cascaded node carries the values on its walk among them
pub cascaded_carry : (world : World) (nodes : List PlanNode) (at : ℕ) (node : PlanNode)
    → slice_get (cascaded world nodes) at ≡ Some node
    → node.cascaded ≡ cascaded_on world (walk (cascaded world nodes) at)
cascaded_carry world nodes at node is =
    values_of (cascaded_on world (walk nodes at)) (slice_get nodes at) node (sym (get_cascaded world nodes at) ∙ is)
    ∙ same_values_at world nodes (cascaded world nodes) (alike_cascaded world nodes) at

-- each node with a scope carries the number of its scope among them
pub scoped_carry : (nodes : List PlanNode) (at : ℕ) (node : PlanNode) → slice_get (scoped nodes) at ≡ Some node
    → node.scope ≡ scope_at (scoped nodes) at
scoped_carry nodes at node is =
    scope_of (scope_at nodes at) (slice_get nodes at) node (sym (get_scoped nodes at) ∙ is)
    ∙ same_scope_at nodes (scoped nodes) (alike_scoped nodes) at

-- and the values that it carried before
pub scoped_keep : (world : World) (nodes : List PlanNode)
    → ((at : ℕ) (node : PlanNode) → slice_get nodes at ≡ Some node → node.cascaded ≡ cascaded_on world (walk nodes at))
    → (at : ℕ) (node : PlanNode) → slice_get (scoped nodes) at ≡ Some node
    → node.cascaded ≡ cascaded_on world (walk (scoped nodes) at)
scoped_keep world nodes carry at node is =
    let (first, there, kept) =
    before_scope (scope_at nodes at) (slice_get nodes at) node (sym (get_scoped nodes at) ∙ is) in
    kept ∙ carry at first there ∙ same_values_at world nodes (scoped nodes) (alike_scoped nodes) at

-- each node of a plan carries both, and they are those among the nodes of the plan: the values on its walk
pub made_values : (world : World) (nodes : List PlanNode) (at : ℕ) (node : PlanNode)
    → slice_get (made world nodes) at ≡ Some node → node.cascaded ≡ cascaded_on world (walk (made world nodes) at)
made_values world nodes = scoped_keep world (cascaded world nodes) (cascaded_carry world nodes)

-- the number of its scope
pub made_scope : (world : World) (nodes : List PlanNode) (at : ℕ) (node : PlanNode)
    → slice_get (made world nodes) at ≡ Some node
    → node.scope ≡ scope_at (made world nodes) at
made_scope world nodes = scoped_carry (cascaded world nodes)

-- The plan

-- what a plan says is said of the nodes that it holds
pub plan_made : (world : World) (before : List Fault) (nodes : List PlanNode)
    → plan_with world before nodes ≡ plan_holding world before (scoped nodes)
plan_made world before nodes =
    let alike = alike_scoped nodes in
    λ i. record {
      nodes = scoped nodes;
      scopes = same_scopes nodes (scoped nodes) alike i;
      pages = same_pages_of world nodes (scoped nodes) alike i;
      targets = same_targets_of world nodes (scoped nodes) alike i;
      documents = same_documents_of world nodes (scoped nodes) alike i;
      faults = before ++ same_name_faults world nodes (scoped nodes) alike i
          ++ same_page_faults world nodes (scoped nodes) alike i;
    }
