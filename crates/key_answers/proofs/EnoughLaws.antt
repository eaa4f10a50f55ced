-- One step more than there are nodes is enough for a chain: no definition is met twice, and each that leads on is one
-- of the nodes.
use Rattle.std.specs.Prelude.{◌≡◌, ◌+◌, ◌<◌, ◌==◌, ◌++◌, ◌||◌, ℕ, zero, suc, Bool, true, false, List, [], ◌∷◌, Option, Some, None, Result, IfOk, codes, length, slice_get, if◌then◌else◌}
use Rattle.std.specs.List.{list_any}
use Rattle.std.specs.Cmp.{nat_eq_equiv}
use Rattle.std.specs.Option.{option_and_then, option_map_or}
use Rattle.std.proofs.Common.{refl, sym, ap, subst, ◌∙◌, arith, eqb, length-append}
use Rattle.std.proofs.Math.Logic.{⊎_elim}
use Rattle.std.proofs.lemmas.Bool.{eqb-true, false≢true, or_cases}
use Rattle.std.proofs.lemmas.Map.Keys.{IsDistinct-push}
use Rattle.std.proofs.lemmas.Map.Steps.{length-le_from_distinct_below}
use Rattle.dita_doc.specs.declared.plan.PlanNode.{PlanNode}
use Rattle.dita_doc.proofs.Tests.{number_swaps}
use Rattle.map_spec.specs.Keys.{Chain, attribute_of, chain, chain_at, chain_from, key_of, met_again}
use Rattle.map_spec.specs.Scopes.{definition_found, scope_at}
use Rattle.reader_spec.specs.World.{World}
use Rattle.map_lemmas.proofs.KeyLaws.{AreMet, none_met}
use Rattle.key_answers.specs.Seen.{chain_seen}
use Rattle.key_answers.specs.declared.chain.Chain as declared
use Rattle.key_answers.proofs.ChainLaws.{any_append, step_is}

any_same : (at : ℕ) (met : List ℕ) → list_any (eqb at) met ≡ list_any (λ other. other == at) met
any_same at [] = refl
any_same at (other ∷ met) =
    ap (λ b. b || list_any (eqb at) met) (number_swaps at other) ∙ ap (λ b. (other == at) || b) (any_same at met)

get_within : {X Y : Type 0} (f : X → Option Y) (xs : List X) (at : ℕ) (y : Y)
    → option_and_then f (slice_get xs at) ≡ Some y → at < length xs
get_within f [] at y is = cc
get_within f (x ∷ xs) zero y is = omega arith
get_within f (x ∷ xs) (suc at) y is = omega (arith, get_within f xs at y is)

one_met : (count : ℕ) (met : List ℕ) (at : ℕ) → AreMet count met → list_any (λ other. other == at) met ≡ false
    → at < count → AreMet count (met ++ at ∷ [])
one_met count met at are new within = record {
  distinct = IsDistinct-push nat_eq_equiv met at are.distinct (any_same at met ∙ new);
  below = λ other is. ⊎_elim (are.below other)
      (λ here. ⊎_elim (λ same. let e : other ≡ at = eqb-true other at same in omega (arith, within, e))
      (λ no. absurd (false≢true no)) (or_cases (eqb other at) false here))
      (or_cases (list_any (eqb other) met) (list_any (eqb other) (at ∷ []))
      (sym (any_append (eqb other) met (at ∷ [])) ∙ is));
}

module _ (world : World) (nodes : List PlanNode) where
  -- two ways to go on that do the same
  same_at : (f g : List ℕ → ℕ → List ℕ → Chain) (met key : List ℕ) (found : Option ℕ)
      → ((at : ℕ) (keyref : List ℕ) → list_any (λ other. other == at) met ≡ false
      → attribute_of world nodes (codes "keyref") at ≡ Some keyref
      → f (met ++ at ∷ []) (scope_at nodes at) (key_of keyref) ≡ g (met ++ at ∷ []) (scope_at nodes at) (key_of keyref))
      → chain_at f world nodes met key found ≡ chain_at g world nodes met key found
  same_at f g met key None same = refl
  same_at f g met key (Some at) same = by_value (list_any (λ other. other == at) met)
      (attribute_of world nodes (codes "keyref") at) refl refl
    where
      by_value : (again : Bool) (value : Option (List ℕ)) → list_any (λ other. other == at) met ≡ again
          → attribute_of world nodes (codes "keyref") at ≡ value
          → (if again then met_again nodes met key at
          else option_map_or (λ keyref. f (met ++ at ∷ []) (scope_at nodes at) (key_of keyref)) value
          (record { met = met ++ at ∷ []; faults = [] }))
          ≡ (if again then met_again nodes met key at
          else option_map_or (λ keyref. g (met ++ at ∷ []) (scope_at nodes at) (key_of keyref)) value
          (record { met = met ++ at ∷ []; faults = [] }))
      by_value true value is value_is = refl
      by_value false None is value_is = refl
      by_value false (Some keyref) is value_is = same at keyref is value_is

  enough_from : (left more : ℕ) (met : List ℕ) (scope : ℕ) (key : List ℕ) → AreMet (length nodes) met
      → length nodes < length met + left
      → chain_from (left + more) world nodes met scope key ≡ chain_from left world nodes met scope key
  enough_from zero more met scope key are many =
      absurd (omega (arith, many, length-le_from_distinct_below met (length nodes) are.distinct are.below))
  enough_from (suc left) more met scope key are many =
      let steps : suc left + more ≡ suc (left + more) = omega arith in
      ap (λ n. chain_from n world nodes met scope key) steps
      ∙ step_is world nodes (left + more) met scope key
      ∙ same_at (chain_from (left + more) world nodes) (chain_from left world nodes) met key
      (definition_found world nodes scope key)
      (λ at keyref new value. enough_from left more (met ++ at ∷ []) (scope_at nodes at) (key_of keyref)
      (one_met (length nodes) met at are new (get_within _ nodes at keyref value))
      (omega (arith, many, length-append met (at ∷ []))))
      ∙ sym (step_is world nodes left met scope key)

-- with more steps a chain is the same
enough : (world : World) (nodes : List PlanNode) (scope : ℕ) (key : List ℕ) (more : ℕ)
    → chain world nodes scope key ≡ chain_from (length nodes + 1 + more) world nodes [] scope key
enough world nodes scope key more =
    sym (enough_from world nodes (length nodes + 1) more [] scope key (none_met (length nodes)) (omega arith))

pub chain_enough : {E : Type 0} (world : World) (nodes : List PlanNode) (scope : ℕ) (key : List ℕ) (more : ℕ)
    (result : Result declared.Chain E) → IfOk result (λ made. chain_seen made ≡ chain world nodes scope key)
    → IfOk result (λ made. chain_seen made ≡ chain_from (length nodes + 1 + more) world nodes [] scope key)
chain_enough world nodes scope key more result = subst (λ all. IfOk result (λ made. chain_seen made ≡ all))
    (enough world nodes scope key more)
