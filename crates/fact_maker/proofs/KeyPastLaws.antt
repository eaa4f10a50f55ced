-- A key in a scope beyond those of a plan is that of the root scope.
use Rattle.std.specs.Prelude.{◌≡◌, ◌+◌, ◌==◌, ◌<◌, ◌≤◌, ℕ, zero, suc, Bool, false, List, [], ◌∷◌, Option, Some, None, length, slice_get, if◌then◌else◌}
use Rattle.std.specs.Option.{option_or, option_map_or}
use Rattle.std.proofs.Common.{refl, sym, ap, ◌∙◌, arith}
use Rattle.std.proofs.lemmas.Bool.Decides.{nat_tests}
use Rattle.dita_doc.specs.declared.plan.PlanNode.{PlanNode}
use Rattle.dita_doc.specs.declared.plan.Scope.{Scope}
use Rattle.key_scopes.proofs.PastLaws.{own_past, qualified_past}
use Rattle.key_scopes.specs.Above.{AreInPreorder, parent_in}
use Rattle.map_spec.specs.Keys.{answer_of_chain, chain_at, chain_from, key_answer}
use Rattle.map_spec.specs.Scopes.{definition_found, found_from, own_or_qualified, parent_of, qualified, scopes}
use Rattle.reader_spec.specs.World.{World}

none_past : {X : Type 0} (some : List X) (at : ℕ) → length some ≤ at → slice_get some at ≡ None
none_past [] at out = refl
none_past (x ∷ some) zero out = absurd (omega arith)
none_past (x ∷ some) (suc at) out = none_past some at (omega (arith, out))

module _ (world : World) (nodes : List PlanNode)
    (ordered : AreInPreorder (parent_in (scopes nodes)) (length (scopes nodes))) (scope : ℕ)
    (out : length (scopes nodes) ≤ scope) where
  nothing_there : (key : List ℕ) → own_or_qualified world nodes scope key ≡ None
  nothing_there key = ap (λ (first : Option ℕ). option_or first (qualified (length key) world nodes scope key))
      (own_past world nodes scope key out)
      ∙ qualified_past (length key) world nodes scope key ordered out

  parent_root : parent_of nodes scope ≡ 0
  parent_root = ap (λ found. option_map_or (λ (s : Scope). s.parent) found 0) (none_past (scopes nodes) scope out)

  from_root : (steps : ℕ) (key : List ℕ) → found_from steps world nodes 0 key ≡ own_or_qualified world nodes 0 key
  unfolding found_from
  from_root zero key = refl
  from_root (suc steps) key = refl

  or_none : (found : Option ℕ) → option_or found None ≡ found
  or_none None = refl
  or_none (Some at) = refl

  found_past : (steps : ℕ) (key : List ℕ) → 0 < steps → (scope == 0) ≡ false
      → found_from steps world nodes scope key ≡ own_or_qualified world nodes 0 key
  unfolding found_from
  found_past zero key some other = absurd (omega (arith, some))
  found_past (suc steps) key some other =
      ap (λ (test : Bool). if test then own_or_qualified world nodes scope key
      else option_or (found_from steps world nodes (parent_of nodes scope) key) (own_or_qualified world nodes scope key)) other
      ∙ ap (λ (at : ℕ). option_or (found_from steps world nodes at key) (own_or_qualified world nodes scope key)) parent_root
      ∙ ap (λ (more : Option ℕ). option_or (found_from steps world nodes 0 key) more) (nothing_there key)
      ∙ or_none (found_from steps world nodes 0 key) ∙ from_root steps key

  beyond_root : (scope == 0) ≡ false
  beyond_root = let some : 0 < length (scopes nodes) = omega arith in grind (arith, nat_tests, out, some)

  same_found : (key : List ℕ) → definition_found world nodes scope key ≡ definition_found world nodes 0 key
  same_found key = let some : 0 < scope = omega (arith, out) in
      found_past scope key some beyond_root ∙ sym (from_root 0 key)

  same_chain : (steps : ℕ) (key : List ℕ)
      → chain_from steps world nodes [] scope key ≡ chain_from steps world nodes [] 0 key
  unfolding chain_from
  same_chain zero key = refl
  same_chain (suc steps) key = ap (chain_at (chain_from steps world nodes) world nodes [] key) (same_found key)

  pub key_past : (key : List ℕ) → key_answer world nodes scope key ≡ key_answer world nodes 0 key
  key_past key = ap (answer_of_chain world nodes key) (same_chain (length nodes + 1) key)
