-- The nearest value of a node, by that of its parent.
use Rattle.std.specs.Prelude.{◌≡◌, ◌+◌, ◌<◌, ◌||◌, ℕ, zero, suc, Bool, true, false, List, [], ◌∷◌, ◌++◌, Option, Some, None, map, length, slice_get, nat_lt, if◌then◌else◌}
use Rattle.std.specs.Borrow.{Bor}
use Rattle.std.specs.Option.{option_and_then, option_copied, option_or}
use Rattle.std.proofs.Common.{refl, sym, ap, ◌∙◌, arith, get_or}
use Rattle.std.proofs.lemmas.Bool.Decides.{nat_tests}
use Rattle.std.proofs.lemmas.List.{map-append, take_all}
use Rattle.std.proofs.lemmas.Option.{slice_get-get_or}
use Rattle.dita_doc.specs.declared.plan.PlanNode.{PlanNode}
use Rattle.dita_doc.proofs.Lists.{get_read}
use Rattle.map_spec.specs.Cascade.{attribute_at, nearest, passed, stays_behind, walk, whole_at}
use Rattle.map_spec.specs.Scopes.{places}
use Rattle.map_spec.specs.Written.{Whole}
use Rattle.plan_nodes.specs.Home as home
use Rattle.plan_nodes.specs.Preorder.{HasParentsBefore}
use Rattle.reader_spec.specs.World.{World}
use Rattle.attr_cascade.specs.Nearest.{Value, nearest_at, nearest_of, parent_of, passed_on, seen, stops, value_at}
use Rattle.attr_cascade.proofs.PlaceLaws.{Begins, walk_begins}
use Rattle.plan_nodes.proofs.HomeLaws.{value_same}
use Rattle.plan_nodes.proofs.PlaceLaws.{known, known_at, known_more, walk_root, walk_up}

abbrev nothing : Value
nothing = None

none_either : (test : Bool) → (if test then nothing else nothing) ≡ nothing
none_either true = refl
none_either false = refl

-- what passes is the same if the walk goes on with the parent, and its value is this
passed_same : (name : List ℕ) (node parent : PlanNode) (around others : List PlanNode) (value : Value)
    → around ≡ parent ∷ others
    → (if stops name node parent || stays_behind name value then None else value) ≡ passed name node around value
passed_same name node parent around others value is = rw is refl

no_parent : (nodes : List PlanNode) (node : PlanNode) → parent_of nodes 0 node ≡ None
no_parent nodes node = let no : nat_lt node.parent 0 ≡ false = grind (arith, nat_tests) in rw no refl

module _ (world : World) (name : List ℕ) (nodes : List PlanNode) where
  root_value : (node : PlanNode) (values : List Value) → slice_get nodes 0 ≡ Some node
      → option_or (attribute_at world name node) (passed_on name node (parent_of nodes 0 node) values)
      ≡ nearest_at world name nodes 0
  root_value node values is =
      ap (λ parent. option_or (attribute_at world name node) (passed_on name node parent values)) (no_parent nodes node)
      ∙ ap (option_or (attribute_at world name node)) (sym (none_either _))
      ∙ ap (nearest world name) (sym (walk_root nodes node is))

  value_above : (before : HasParentsBefore nodes) (at : ℕ) (node : PlanNode) → slice_get nodes at ≡ Some node
      → 0 < at → at < length nodes
      → option_or (attribute_at world name node)
      (passed_on name node (parent_of nodes at node) (known (nearest_at world name nodes) nodes at))
      ≡ nearest_at world name nodes at
  value_above before at node is above within =
      let up = before at node above is in
      let parent = get_or nodes node.parent node in
      let there : slice_get nodes node.parent ≡ Some parent = slice_get-get_or nodes node.parent node (omega arith) in
      let first : nat_lt node.parent at ≡ true = grind (arith, nat_tests) in
      let found : parent_of nodes at node ≡ Some parent = rw (first, there) refl in
      let values = known (nearest_at world name nodes) nodes at in
      let value : value_at values node.parent ≡ nearest_at world name nodes node.parent =
      ap (option_and_then (λ (v : Value). v))
      (known_at (nearest_at world name nodes) nodes node.parent at up (omega arith)) in
      let walks : Begins nodes node.parent parent = walk_begins nodes node.parent parent there in
      ap (λ p. option_or (attribute_at world name node) (passed_on name node p values)) found
      ∙ ap (λ (v : Value). option_or (attribute_at world name node)
      (if stops name node parent || stays_behind name v then None else v)) value
      ∙ ap (option_or (attribute_at world name node))
      (passed_same name node parent (walk nodes node.parent) walks.others (nearest_at world name nodes node.parent) walks.is)
      ∙ ap (nearest world name) (sym (walk_up nodes before at node is above))

  value_here : (before : HasParentsBefore nodes) (at : ℕ) (node : PlanNode) → slice_get nodes at ≡ Some node
      → at < length nodes
      → option_or (attribute_at world name node)
      (passed_on name node (parent_of nodes at node) (known (nearest_at world name nodes) nodes at))
      ≡ nearest_at world name nodes at
  value_here before zero node is within = root_value node _ is
  value_here before (suc at) node is within = value_above before (suc at) node is (omega arith) within

  -- one more value
  pub values_more : (homes : List (Option Whole)) (at : ℕ) (node : PlanNode) (old new : List (Option (Bor (List ℕ))))
      (own value : Option (Bor (List ℕ))) (parent : Option PlanNode) → HasParentsBefore nodes
      → homes ≡ map (whole_at world) nodes → at < length nodes → node ≡ get_or nodes at node
      → seen old ≡ known (nearest_at world name nodes) nodes at
      → option_copied own ≡ home.value_at homes at name → parent ≡ parent_of nodes at node
      → option_copied value ≡ option_or (option_copied own) (passed_on name node parent (seen old))
      → new ≡ old ++ value ∷ [] → seen new ≡ known (nearest_at world name nodes) nodes (at + 1)
  values_more homes at node old new own value parent before same within item told own_is parent_is value_is more =
      let is = get_read nodes at node within item in
      let here : option_copied value ≡ nearest_at world name nodes at =
      value_is
      ∙ ap (λ o. option_or o (passed_on name node parent (seen old)))
      (own_is ∙ value_same world homes nodes at node name same is)
      ∙ ap (λ p. option_or (attribute_at world name node) (passed_on name node p (seen old))) parent_is
      ∙ ap (λ v. option_or (attribute_at world name node) (passed_on name node (parent_of nodes at node) v)) told
      ∙ value_here before at node is within in
      ap seen more
      ∙ map-append (λ (v : Option (Bor (List ℕ))). option_copied v) old (value ∷ [])
      ∙ ap (λ v. seen old ++ v ∷ []) here
      ∙ ap (λ all. all ++ nearest_at world name nodes at ∷ []) told
      ∙ sym (known_more (nearest_at world name nodes) nodes at node within)

-- the value at a place among those of all nodes
pub nearest_there : (world : World) (name : List ℕ) (nodes : List PlanNode) (at : ℕ) → at < length nodes
    → value_at (nearest_of world name nodes) at ≡ nearest_at world name nodes at
nearest_there world name nodes at within =
    ap (λ all. value_at (map (nearest_at world name nodes) (places all)) at) (sym (take_all (length nodes) nodes (omega arith)))
    ∙ ap (option_and_then (λ (v : Value). v))
    (known_at (nearest_at world name nodes) nodes at (length nodes) within (omega arith))
