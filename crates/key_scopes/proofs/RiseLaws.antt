-- The search from the root scope down: the outermost own definition, and the qualified keys at the scopes around it.
use Rattle.std.specs.Prelude.{◌≡◌, ◌<◌, ◌≤◌, ◌==◌, ℕ, zero, suc, Bool, true, false, List, [], ◌∷◌, Option, Some, None, bytes_eq, length, slice_get, if◌then◌else◌}
use Rattle.std.specs.Option.{option_or}
use Rattle.std.proofs.Common.{Less, Equal, refl, sym, ap, ap₂, ◌∙◌, arith, get_or}
use Rattle.std.proofs.lemmas.Bool.{and_from, eq-eqb, eqb-true}
use Rattle.std.proofs.lemmas.Bool.Decides.{nat_tests}
use Rattle.dita_doc.specs.declared.plan.Scope.{Scope}
use Rattle.dita_doc.proofs.Tests.{equal_text, first_holds, same_text, second_holds}
use Rattle.key_scopes.specs.declared.definitions.Definition.{Definition}
use Rattle.key_scopes.specs.Above.{around_in, parent_in, risen}
use Rattle.key_scopes.specs.Defined.{AreStrict, first_order}
use Rattle.key_scopes.specs.Table.{first_of, firsts_of, is_first, own_in}
use Rattle.key_scopes.proofs.OrderLaws.{equal_one}

-- So many parents around a scope may be looked at

abbrev pub outermost_in : ℕ → (ℕ → Option ℕ) → List Scope → ℕ → Option ℕ
outermost_in zero answer scopes scope = answer scope
outermost_in (suc steps) answer scopes scope = if scope == 0 then answer scope
    else option_or (outermost_in steps answer scopes (parent_in scopes scope)) (answer scope)

abbrev pub outermost_from : (ℕ → Option ℕ) → List Scope → Option ℕ → Option ℕ
outermost_from answer scopes None = None
outermost_from answer scopes (Some scope) = outermost_in scope answer scopes scope

-- Rising by parents that stand before

module _ (all : List Scope) (low : (at : ℕ) → 0 < at → parent_in all at < at) where
  root : (at : ℕ) → at ≤ 0 → (at == 0) ≡ true
  root at none = grind (arith, nat_tests)

  -- so many steps are enough as the number says
  fuel : (answer : ℕ → Option ℕ) (steps more at : ℕ) → at ≤ steps → at ≤ more
      → outermost_in steps answer all at ≡ outermost_in more answer all at
  fuel answer zero zero at enough plenty = refl
  fuel answer zero (suc more) at enough plenty = rw (root at enough) refl
  fuel answer (suc steps) zero at enough plenty = rw (root at plenty) refl
  fuel answer (suc steps) (suc more) at enough plenty =
      by_root (λ some. let less = low at some in
      fuel answer steps more (parent_in all at) (omega (arith, enough, less)) (omega (arith, plenty, less)))
      (at == 0) refl
    where
      by_root : (0 < at → outermost_in steps answer all (parent_in all at)
          ≡ outermost_in more answer all (parent_in all at)) → (a : Bool) → (at == 0) ≡ a
          → outermost_in (suc steps) answer all at ≡ outermost_in (suc more) answer all at
      by_root behind true e = rw e refl
      by_root behind false e =
          let some : 0 < at = grind (arith, nat_tests) in
          rw e (ap (λ one. option_or one (answer at)) (behind some))

  abbrev pub risen_to : (ℕ → Option ℕ) → ℕ → Option ℕ
  risen_to answer at = outermost_in at answer all at

  -- one step up
  pub up : (answer : ℕ → Option ℕ) (at : ℕ) → 0 < at
      → risen_to answer at ≡ option_or (risen_to answer (parent_in all at)) (answer at)
  up answer zero some = absurd (omega arith)
  up answer (suc n) some =
      let other : (suc n == 0) ≡ false = grind (arith, nat_tests) in
      let less = low (suc n) some in
      rw other (ap (λ one. option_or one (answer (suc n)))
      (fuel answer n (parent_in all (suc n)) (parent_in all (suc n)) (omega (arith, less)) (omega arith)))

  -- if nothing is defined on the way up, the qualified keys count
  pub none_own : (own_at by : ℕ → Option ℕ) (steps at : ℕ) → ((k : ℕ) → own_at (risen (parent_in all) k at) ≡ None)
      → outermost_in steps (λ scope. option_or (own_at scope) (by scope)) all at ≡ outermost_in steps by all at
  none_own own_at by zero at none = rw (none 0) refl
  none_own own_at by (suc steps) at none =
      by_root (none_own own_at by steps (parent_in all at) (λ k. none (suc k))) (at == 0) refl
    where
      by_root : outermost_in steps (λ scope. option_or (own_at scope) (by scope)) all (parent_in all at)
          ≡ outermost_in steps by all (parent_in all at) → (a : Bool) → (at == 0) ≡ a
          → outermost_in (suc steps) (λ scope. option_or (own_at scope) (by scope)) all at
          ≡ outermost_in (suc steps) by all at
      by_root behind true e = rw (e, none 0) refl
      by_root behind false e = rw (e, none 0) (ap (λ one. option_or one (by at)) behind)

  -- what is found further out counts
  pub stays : (answer : ℕ → Option ℕ) (x : ℕ) → parent_in all 0 ≡ 0 → (k at : ℕ)
      → risen_to answer (risen (parent_in all) k at) ≡ Some x → risen_to answer at ≡ Some x
  stays answer x root_up zero at there = there
  stays answer x root_up (suc k) zero there =
      stays answer x root_up k zero
      (ap (λ n. risen_to answer (risen (parent_in all) k n)) (sym root_up) ∙ there)
  stays answer x root_up (suc k) (suc at) there =
      up answer (suc at) (omega arith)
      ∙ ap (λ one. option_or one (answer (suc at))) (stays answer x root_up k (parent_in all (suc at)) there)

  -- with an own definition at a scope, and none further out
  pub some_own : (own_at by : ℕ → Option ℕ) (node at : ℕ) → own_at at ≡ Some node
      → (0 < at → (k : ℕ) → own_at (risen (parent_in all) k (parent_in all at)) ≡ None)
      → around_in all at ≡ (if at == 0 then None else Some (parent_in all at))
      → risen_to (λ scope. option_or (own_at scope) (by scope)) at
      ≡ option_or (outermost_from by all (around_in all at)) (Some node)
  some_own own_at by node zero here none around = rw (around, here) refl
  some_own own_at by node (suc at) here none around =
      let other : (suc at == 0) ≡ false = grind (arith, nat_tests) in
      let there : around_in all (suc at) ≡ Some (parent_in all (suc at)) =
      around ∙ ap (λ a. if a then None else Some (parent_in all (suc at))) other in
      up (λ scope. option_or (own_at scope) (by scope)) (suc at) (omega arith)
      ∙ ap₂ option_or (none_own own_at by (parent_in all (suc at)) (parent_in all (suc at)) (none (omega arith)))
      (ap (λ some. option_or some (by (suc at))) here)
      ∙ ap (λ from. option_or (outermost_from by all from) (Some node)) (sym there)

-- Own definitions

pub record IsDefined (definitions : List Definition) (scope : ℕ) (key : List ℕ) : Type 0 where
  pub at : ℕ
  pub definition : Definition
  pub is : slice_get definitions at ≡ Some definition
  pub of_key : definition.key ≡ key
  pub of_scope : definition.scope ≡ scope

pub defined_of : (definitions : List Definition) (scope : ℕ) (key : List ℕ) (node : ℕ)
    → own_in (firsts_of definitions) scope key ≡ Some node → IsDefined definitions scope key
defined_of [] scope key node found = cc
defined_of (first ∷ definitions) scope key node found =
    by_one (λ there. defined_of definitions scope key node there) (is_first scope key (first_of first)) refl
  where
    by_one : (own_in (firsts_of definitions) scope key ≡ Some node → IsDefined definitions scope key)
        → (a : Bool) → is_first scope key (first_of first) ≡ a → IsDefined (first ∷ definitions) scope key
    by_one behind true e = record {
      at = 0;
      definition = first;
      is = refl;
      of_key = sym (same_text key first.key (second_holds (first.scope == scope) (bytes_eq key first.key) e));
      of_scope = eqb-true first.scope scope (first_holds (first.scope == scope) (bytes_eq key first.key) e);
    }
    by_one behind false e =
        let one = behind (rw e at found) in
        record {
          at = suc one.at;
          definition = one.definition;
          is = one.is;
          of_key = one.of_key;
          of_scope = one.of_scope;
        }

-- a definition that is there is the scope's own
pub own_there : (definitions : List Definition) (scope : ℕ) (key : List ℕ) (at : ℕ) (top : Definition)
    → AreStrict (firsts_of definitions) → slice_get definitions at ≡ Some top → top.key ≡ key → top.scope ≡ scope
    → own_in (firsts_of definitions) scope key ≡ Some top.node
own_there [] scope key at top strict is same_key same_scope = cc
own_there (first ∷ definitions) scope key zero top strict is same_key same_scope =
    let same : first ≡ top = cc in
    let here : is_first scope key (first_of first) ≡ true =
    and_from (first.scope == scope) (bytes_eq key first.key)
    (eq-eqb first.scope scope (ap (λ (d : Definition). d.scope) same ∙ same_scope))
    (equal_text key first.key (sym (ap (λ (d : Definition). d.key) same ∙ same_key))) in
    rw here (ap (λ (d : Definition). Some d.node) same)
own_there (first ∷ definitions) scope key (suc at) top strict is same_key same_scope =
    by_one (own_there definitions scope key at top
    (λ i j d less within. strict (suc i) (suc j) d (omega (arith, less)) (omega (arith, within))) is same_key same_scope)
    (is_first scope key (first_of first)) refl
  where
    placed : (some : List Definition) (n : ℕ) → slice_get some n ≡ Some top
        → (n < length (firsts_of some)) × (get_or (firsts_of some) n (first_of top) ≡ first_of top)
    placed [] n is = cc
    placed (one ∷ some) zero is =
        let same : one ≡ top = cc in (omega arith, ap first_of same)
    placed (one ∷ some) (suc n) is = let behind = placed some n is in (omega (arith, behind.0), behind.1)

    by_one : own_in (firsts_of definitions) scope key ≡ Some top.node → (a : Bool)
        → is_first scope key (first_of first) ≡ a
        → own_in (firsts_of (first ∷ definitions)) scope key ≡ Some top.node
    by_one behind false e = rw e behind
    by_one behind true e =
        let there = placed definitions at is in
        let before : first_order (first_of first) (first_of top) ≡ Less =
        ap (first_order (first_of first)) (sym there.1)
        ∙ strict 0 (suc at) (first_of top) (omega arith) (omega (arith, there.0)) in
        let equal : first_order (first_of first) (first_of top) ≡ Equal =
        equal_one top.scope top.key (first_of first)
        (and_from (first.scope == top.scope) (bytes_eq top.key first.key)
        (eq-eqb first.scope top.scope
        (eqb-true first.scope scope (first_holds (first.scope == scope) (bytes_eq key first.key) e) ∙ sym same_scope))
        (equal_text top.key first.key
        (same_key ∙ same_text key first.key (second_holds (first.scope == scope) (bytes_eq key first.key) e)))) in
        absurd (let both = sym before ∙ equal in cc)
