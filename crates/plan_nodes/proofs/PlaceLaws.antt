-- Nodes in preorder: the places from each up go on from its parent, and what is known of each place before one.
use Rattle.std.specs.Prelude.{◌≡◌, ◌+◌, ◌<◌, ◌≤◌, ◌==◌, ℕ, zero, suc, Bool, true, false, List, [], ◌∷◌, ◌++◌, Option, Some, None, IsTrue, map, length, slice_get, take, if◌then◌else◌}
use Rattle.std.specs.List.{filter_map, list_any}
use Rattle.std.specs.Option.{option_map_or}
use Rattle.std.proofs.Common.{refl, ap, subst, ◌∙◌, arith, get_or, eqb}
use Rattle.std.proofs.lemmas.Bool.{or_left, or_right}
use Rattle.std.proofs.lemmas.Bool.Decides.{nat_tests}
use Rattle.std.proofs.lemmas.List.{length-take, map-append, take_more}
use Rattle.dita_doc.specs.declared.plan.PlanNode.{PlanNode}
use Rattle.map_spec.specs.Cascade.{places_up, steps_up, walk}
use Rattle.map_spec.specs.Scopes.{places, places_from}
use Rattle.plan_nodes.specs.Preorder.{HasParentsBefore}

-- one step up, which takes no more steps than it needs
same_step : (nodes : List PlanNode) → HasParentsBefore nodes → (steps more at : ℕ) → at < suc steps → at < suc more
    → (root : Bool) → (at == 0) ≡ root → (found : Option PlanNode) → slice_get nodes at ≡ found
    → ((up : ℕ) → up < steps → up < more → steps_up steps nodes up ≡ steps_up more nodes up)
    → (if root then [] else option_map_or (λ (node : PlanNode). steps_up steps nodes node.parent) found [])
    ≡ (if root then [] else option_map_or (λ (node : PlanNode). steps_up more nodes node.parent) found [])
same_step nodes before steps more at few enough true e found is same = refl
same_step nodes before steps more at few enough false e None is same = refl
same_step nodes before steps more at few enough false e (Some node) is same =
    let above : 0 < at = grind (arith, nat_tests) in
    let up = before at node above is in
    same node.parent (omega arith) (omega arith)

same_walk : (nodes : List PlanNode) → HasParentsBefore nodes → (steps more at : ℕ) → at < steps → at < more
    → steps_up steps nodes at ≡ steps_up more nodes at
same_walk nodes before zero more at few enough = absurd (omega arith)
same_walk nodes before (suc steps) zero at few enough = absurd (omega arith)
same_walk nodes before (suc steps) (suc more) at few enough =
    ap (λ places. at ∷ places) (same_step nodes before steps more at few enough (at == 0) refl (slice_get nodes at) refl
    (λ up fewer less. same_walk nodes before steps more up fewer less))

-- a place on a walk has its node
pub seen_here : (nodes : List PlanNode) (at : ℕ) (node : PlanNode) → slice_get nodes at ≡ Some node → (above : List ℕ)
    → filter_map (slice_get nodes) (at ∷ above) ≡ node ∷ filter_map (slice_get nodes) above
seen_here nodes at node is above = rw is refl

pub walk_root : (nodes : List PlanNode) (node : PlanNode) → slice_get nodes 0 ≡ Some node → walk nodes 0 ≡ node ∷ []
walk_root nodes node is = seen_here nodes 0 node is []

module _ (nodes : List PlanNode) (before : HasParentsBefore nodes) (at : ℕ) (node : PlanNode)
    (is : slice_get nodes at ≡ Some node) where
  up_one : (steps : ℕ) → 0 < at → steps_up (suc steps) nodes at ≡ at ∷ steps_up steps nodes node.parent
  up_one steps above = let other : eqb at 0 ≡ false = grind (arith, nat_tests) in rw (other, is) refl

  -- the places from a node up go on from its parent, and so do the nodes
  pub up_from : 0 < at → places_up nodes at ≡ at ∷ places_up nodes node.parent
  up_from above =
      let more : at + 1 ≡ suc at = omega arith in
      let up = before at node above is in
      ap (λ steps. steps_up steps nodes at) more ∙ up_one at above
      ∙ ap (λ places. at ∷ places) (same_walk nodes before at (node.parent + 1) node.parent up (omega arith))

  pub walk_up : 0 < at → walk nodes at ≡ node ∷ walk nodes node.parent
  walk_up above =
      ap (filter_map (slice_get nodes)) (up_from above) ∙ seen_here nodes at node is (places_up nodes node.parent)

-- What is known of the places before one

abbrev pub known : {X : Type 0} → (ℕ → X) → List PlanNode → ℕ → List X
known f nodes count = map f (places (take count nodes))

known_from : {X : Type 0} (f : ℕ → X) (from at count : ℕ) (nodes : List PlanNode) → at < count → count ≤ length nodes
    → slice_get (map f (places_from from (take count nodes))) at ≡ Some (f (from + at))
known_from f from at zero nodes few fits = absurd (omega arith)
known_from f from at (suc count) [] few fits = absurd (omega arith)
known_from f from zero (suc count) (node ∷ nodes) few fits =
    let same : from ≡ from + 0 = omega arith in ap (λ place. Some (f place)) same
known_from f from (suc at) (suc count) (node ∷ nodes) few fits =
    let same : from + 1 + at ≡ from + suc at = omega arith in
    known_from f (from + 1) at count nodes (omega arith) (omega arith) ∙ ap (λ place. Some (f place)) same

pub known_at : {X : Type 0} (f : ℕ → X) (nodes : List PlanNode) (at count : ℕ) → at < count → count ≤ length nodes
    → slice_get (known f nodes count) at ≡ Some (f at)
known_at f nodes at count few fits =
    let same : 0 + at ≡ at = omega arith in
    known_from f 0 at count nodes few fits ∙ ap (λ place. Some (f place)) same

places_more : (from : ℕ) (nodes : List PlanNode) (node : PlanNode)
    → places_from from (nodes ++ node ∷ []) ≡ places_from from nodes ++ (from + length nodes) ∷ []
places_more from [] node = let same : from ≡ from + 0 = omega arith in ap (λ place. place ∷ []) same
places_more from (first ∷ nodes) node =
    let same : from + 1 + length nodes ≡ from + suc (length nodes) = omega arith in
    ap (λ places. from ∷ places)
    (places_more (from + 1) nodes node ∙ ap (λ place. places_from (from + 1) nodes ++ place ∷ []) same)

-- one place more
pub place_more : (nodes : List PlanNode) (at : ℕ) (node : PlanNode) → at < length nodes
    → places (take (at + 1) nodes) ≡ places (take at nodes) ++ at ∷ []
place_more nodes at node within =
    let long : 0 + length (take at nodes) ≡ at = omega (arith, length-take at nodes) in
    ap places (take_more nodes at node within)
    ∙ places_more 0 (take at nodes) (get_or nodes at node)
    ∙ ap (λ place. places (take at nodes) ++ place ∷ []) long

pub known_more : {X : Type 0} (f : ℕ → X) (nodes : List PlanNode) (at : ℕ) (node : PlanNode) → at < length nodes
    → known f nodes (at + 1) ≡ known f nodes at ++ f at ∷ []
known_more f nodes at node within =
    ap (map f) (place_more nodes at node within) ∙ map-append f (places (take at nodes)) (at ∷ [])

-- A test that holds at the place of a node

any_from : (test : ℕ → Bool) (nodes : List PlanNode) (from at place : ℕ) (node : PlanNode)
    → slice_get nodes at ≡ Some node → from + at ≡ place → IsTrue (test place)
    → IsTrue (list_any test (places_from from nodes))
any_from test [] from zero place node there sum here = cc
any_from test [] from (suc at) place node there sum here = cc
any_from test (head ∷ nodes) from zero place node there sum here =
    let same : place ≡ from = omega (arith, sum) in
    or_left (test from) _ (subst (λ n. IsTrue (test n)) same here)
any_from test (head ∷ nodes) from (suc at) place node there sum here =
    let next : (from + 1) + at ≡ place = omega (arith, sum) in
    or_right (test from) _ (any_from test nodes (from + 1) at place node there next here)

pub any_at : (test : ℕ → Bool) (nodes : List PlanNode) (at : ℕ) (node : PlanNode) → slice_get nodes at ≡ Some node
    → IsTrue (test at) → IsTrue (list_any test (places nodes))
any_at test nodes at node there here = any_from test nodes 0 at at node there (omega arith) here
