-- More steps than the chain of definitions takes change nothing: the definitions that it meets are different nodes.
use Rattle.std.specs.Prelude.{◌≡◌, ◌<◌, ◌+◌, ◌==◌, ◌∷◌, ◌++◌, ◌||◌, ◌⊎◌, ℕ, zero, suc, true, false, List, [], Option, Some, None, length, slice_get, codes}
use Rattle.std.specs.List.{AllByRecursion, IsDistinct, list_any}
use Rattle.std.proofs.Common.{refl, sym, ◌∙◌, arith, inl, inr, eqb}
use Rattle.std.proofs.Math.Bool.{or-false}
use Rattle.std.proofs.lemmas.Bool.{eqb-true, or_cases, or_parts}
use Rattle.std.proofs.lemmas.List.{length_push}
use Rattle.std.proofs.lemmas.List.Folds.{list_any-append}
use Rattle.std.proofs.lemmas.Map.Steps.{length-le_from_distinct_below}
use Rattle.std.proofs.lemmas.Option.{option_and_then_some, slice_get_within}
use Rattle.dita_doc.specs.declared.plan.PlanNode.{PlanNode}
use Rattle.reader_spec.specs.World.{World}
use Rattle.map_spec.specs.Cascade.{attribute_at}
use Rattle.map_spec.specs.Keys.{Chain, attribute_of, chain_at, chain_from, key_of, met_again}
use Rattle.map_spec.specs.Scopes.{definition_found, scope_at}
use Rattle.map_lemmas.proofs.KeyLaws.{AreMet, none_met}
use Rattle.language_laws.specs.Steps.{ChainIsWhole}
use Rattle.language_laws.proofs.ChoiceLaws.{both_same, map_or_same}

-- Different numbers

-- what differs from each of some numbers, and from one more, differs from each of them all
each_differs : (at : ℕ) (met : List ℕ) (other : ℕ) → AllByRecursion (λ y. eqb other y ≡ false) met
    → eqb other at ≡ false → AllByRecursion (λ y. eqb other y ≡ false) (met ++ at ∷ [])
each_differs at [] other differs new = (new, tt)
each_differs at (first ∷ met) other differs new = (differs.0, each_differs at met other differs.1 new)

-- a number that is not among different ones may stand behind them
different_behind : (at : ℕ) (met : List ℕ) → IsDistinct eqb met → list_any (λ other. other == at) met ≡ false
    → IsDistinct eqb (met ++ at ∷ [])
unfolding IsDistinct
different_behind at [] distinct new = (tt, tt)
different_behind at (first ∷ met) distinct new =
    let parts = or_parts (first == at) (list_any (λ other. other == at) met) new in
    (each_differs at met first distinct.0 parts.0, different_behind at met distinct.1 parts.1)

-- a number that was met, or the next one, is below the limit
one_more : (limit at q : ℕ) (met : List ℕ) → AreMet limit met → at < limit
    → (list_any (eqb q) met ≡ true) ⊎ ((eqb q at || false) ≡ true) → q < limit
one_more limit at q met are low (inl e) = are.below q e
one_more limit at q met are low (inr e) =
    let same : q ≡ at = eqb-true q at (sym (or-false (eqb q at)) ∙ e) in omega arith

-- a node that was not met yet may be met next
met_behind : (limit at : ℕ) (met : List ℕ) → AreMet limit met → list_any (λ other. other == at) met ≡ false → at < limit
    → AreMet limit (met ++ at ∷ [])
met_behind limit at met are new low = record {
  distinct = different_behind at met are.distinct new;
  below = λ q e. one_more limit at q met are low
      (or_cases _ _ (sym (list_any-append (eqb q) met (at ∷ [])) ∙ e));
}

-- The chain

-- a place that has an attribute is that of a node
is_node : (world : World) (nodes : List PlanNode) (name value : List ℕ) (at : ℕ)
    → attribute_of world nodes name at ≡ Some value → at < length nodes
is_node world nodes name value at e =
    option_and_then_some (attribute_at world name) (slice_get nodes at) value e
    (λ node is other. slice_get_within nodes at node is)

-- two steps of the chain give the same if what goes on from them does
step_same : (follow other : List ℕ → ℕ → List ℕ → Chain) (world : World) (nodes : List PlanNode) (met key : List ℕ)
    (found : Option ℕ) → AreMet (length nodes) met
    → ((more : List ℕ) (scope : ℕ) (next : List ℕ) → AreMet (length nodes) more → length more ≡ length met + 1
    → follow more scope next ≡ other more scope next)
    → chain_at follow world nodes met key found ≡ chain_at other world nodes met key found
step_same follow other world nodes met key None are same = refl
step_same follow other world nodes met key (Some at) are same =
    both_same (list_any (λ other. other == at) met) (met_again nodes met key at) _ (met_again nodes met key at) _
    (λ old. refl) (λ new.
    map_or_same (attribute_of world nodes (codes "keyref") at) _ _ (record { met = met ++ at ∷ []; faults = [] })
    (λ keyref is. same (met ++ at ∷ []) (scope_at nodes at) (key_of keyref)
    (met_behind (length nodes) at met are new (is_node world nodes (codes "keyref") keyref at is))
    (length_push met at)))

-- two chains are one if each has more steps than nodes are left to be met
chain_same : (n m : ℕ) (world : World) (nodes : List PlanNode) (met : List ℕ) (scope : ℕ) (key : List ℕ)
    → AreMet (length nodes) met → length nodes < n + length met → length nodes < m + length met
    → chain_from n world nodes met scope key ≡ chain_from m world nodes met scope key
unfolding chain_from
chain_same zero m world nodes met scope key are first second =
    absurd (omega (arith, length-le_from_distinct_below met (length nodes) are.distinct are.below))
chain_same (suc n) zero world nodes met scope key are first second =
    absurd (omega (arith, length-le_from_distinct_below met (length nodes) are.distinct are.below))
chain_same (suc n) (suc m) world nodes met scope key are first second =
    step_same (chain_from n world nodes) (chain_from m world nodes) world nodes met key
    (definition_found world nodes scope key)
    are (λ more next_scope next are_more long.
    chain_same n m world nodes more next_scope next are_more (omega arith) (omega arith))

-- a chain from the start meets at most all nodes
pub chain_is_whole : ChainIsWhole
chain_is_whole world nodes scope more key =
    chain_same (length nodes + 1 + more) (length nodes + 1) world nodes [] scope key (none_met (length nodes))
    (omega arith) (omega arith)
