-- First definitions in the order of their keys and scopes, and the search among them by halving.
use Rattle.std.specs.Prelude.{◌≡◌, ◌<◌, ◌≤◌, ◌==◌, ◌⊎◌, ℕ, zero, suc, Bool, true, false, List, [], ◌∷◌, None, bytes_eq, find, length}
use Rattle.std.specs.Cmp.{IsTotalOrder}
use Rattle.std.specs.Cmp.Lexicographic.{slice_cmp}
use Rattle.std.specs.List.Sorted.{IsPartitionPoint, IsPartitionedBy}
use Rattle.std.specs.Ordering.{is_eq, is_lt, nat_cmp, ordering_reverse, ordering_then}
use Rattle.std.proofs.Common.{Ordering, Less, Equal, Greater, refl, sym, ap, ◌∙◌, arith, get_or, inl, inr}
use Rattle.std.proofs.lemmas.Bool.{and_from, cases_Bool, eq-eqb, eqb-true, true≢false}
use Rattle.std.proofs.lemmas.Bool.Decides.{nat_tests}
use Rattle.std.proofs.lemmas.Cmp.{nat_cmp_total, nat_list_cmp_total, on_total, ranked, then_total, tied_itself}
use Rattle.std.proofs.lemmas.List.{get_or-map, length-map}
use Rattle.dita_doc.proofs.NameOrder.{same_from_equal}
use Rattle.dita_doc.proofs.Tests.{equal_text, first_holds, same_text, second_holds}
use Rattle.key_scopes.specs.declared.definitions.Definition.{Definition}
use Rattle.key_scopes.specs.Defined.{AreStrict, first_order, is_below, own_at, probe}
use Rattle.key_scopes.specs.Table.{First, is_first, own_in, first_of, firsts_of}

pub first_total : IsTotalOrder first_order
first_total = then_total (on_total (λ (f : First). f.key) nat_list_cmp_total)
    (on_total (λ (f : First). f.scope) nat_cmp_total)

abbrev pub Strict : List Definition → Type 0
Strict definitions = (i j : ℕ) (d : Definition) → i < j → j < length definitions
    → first_order (first_of (get_or definitions i d)) (first_of (get_or definitions j d)) ≡ Less

pub strict_of : (definitions : List Definition) → AreStrict (firsts_of definitions) → Strict definitions
strict_of definitions strict = λ i j d low within.
    let long = length-map definitions first_of in
    ap (λ f. first_order f (first_of (get_or definitions j d)))
    (sym (get_or-map first_of definitions i d (first_of d) (omega arith)))
    ∙ ap (first_order (get_or (firsts_of definitions) i (first_of d)))
    (sym (get_or-map first_of definitions j d (first_of d) within))
    ∙ strict i j (first_of d) low (omega (arith, long))

-- A definition of this key in this scope

module _ (scope : ℕ) (key : List ℕ) where
  abbrev order : First → Ordering
  order first = first_order first (probe scope key)

  pub is_one : (first : First) → order first ≡ Equal → is_first scope key first ≡ true
  is_one first e = by_two (slice_cmp nat_cmp first.key key) (nat_cmp first.scope scope) refl refl e
    where
      by_two : (a b : Ordering) → slice_cmp nat_cmp first.key key ≡ a → nat_cmp first.scope scope ≡ b
          → ordering_then a b ≡ Equal → is_first scope key first ≡ true
      by_two Less b f g e = cc
      by_two Greater b f g e = cc
      by_two Equal Less f g e = cc
      by_two Equal Greater f g e = cc
      by_two Equal Equal f g e =
          let text : key ≡ first.key = sym (same_from_equal first.key key f) in
          let number : first.scope ≡ scope = ranked first.scope scope Equal (sym g) in
          and_from (first.scope == scope) (bytes_eq key first.key) (eq-eqb first.scope scope number)
          (equal_text key first.key text)

  pub equal_one : (first : First) → is_first scope key first ≡ true → order first ≡ Equal
  equal_one first e =
      let number = eqb-true first.scope scope (first_holds (first.scope == scope) (bytes_eq key first.key) e) in
      let text = same_text key first.key (second_holds (first.scope == scope) (bytes_eq key first.key) e) in
      rw (number, ← text, tied_itself nat_list_cmp_total key, tied_itself nat_cmp_total scope) refl

  is_other : (first : First) → is_eq (order first) ≡ false → is_first scope key first ≡ false
  is_other first e = by_one (is_first scope key first) refl
    where
      by_one : (a : Bool) → is_first scope key first ≡ a → is_first scope key first ≡ false
      by_one false f = f
      by_one true f = absurd (true≢false (sym (ap is_eq (equal_one first f)) ∙ e))

  -- behind one that is not before it, none is of it
  turn : (first : First) → order first ≡ Greater → first_order (probe scope key) first ≡ Less
  turn first e = IsTotalOrder.antisymm first_total (probe scope key) first ∙ ap ordering_reverse e

  back : (first : First) → first_order (probe scope key) first ≡ Less → is_eq (order first) ≡ false
  back first e = ap is_eq (IsTotalOrder.antisymm first_total first (probe scope key) ∙ ap ordering_reverse e)

  none_behind : (definitions : List Definition)
      → ((k : ℕ) (d : Definition) → k < length definitions
      → first_order (probe scope key) (first_of (get_or definitions k d)) ≡ Less)
      → find (is_first scope key) (firsts_of definitions) ≡ None
  none_behind [] above = refl
  none_behind (first ∷ definitions) above =
      rw (is_other (first_of first) (back (first_of first) (above 0 first (omega arith))))
      (none_behind definitions (λ k d within. above (suc k) d (omega arith)))

  less_true : (o : Ordering) → is_lt o ≡ true → o ≡ Less
  less_true Less e = refl
  less_true Equal e = cc
  less_true Greater e = cc

  more_false : (o : Ordering) → is_lt o ≡ false → is_eq o ≡ false → o ≡ Greater
  more_false Less e f = cc
  more_false Equal e f = cc
  more_false Greater e f = refl

  equal_true : (o : Ordering) → is_eq o ≡ true → o ≡ Equal
  equal_true Less e = cc
  equal_true Equal e = refl
  equal_true Greater e = cc

  pub parted : (definitions : List Definition) → AreStrict (firsts_of definitions)
      → IsPartitionedBy (is_below scope key) definitions
  parted definitions strict i j d le inside below = by_test (cases_Bool (i == j))
    where
      by_test : ((i == j) ≡ true) ⊎ ((i == j) ≡ false) → is_below scope key (get_or definitions i d) ≡ true
      by_test (inl same) = ap (λ n. is_below scope key (get_or definitions n d)) (eqb-true i j same) ∙ below
      by_test (inr differs) =
          let less : i < j = grind (arith, nat_tests) in
          ap is_lt (IsTotalOrder.trans first_total (first_of (get_or definitions i d))
          (first_of (get_or definitions j d))
          (probe scope key) (strict_of definitions strict i j d less inside)
          (less_true (order (first_of (get_or definitions j d))) below))

  halved : (definitions : List Definition) (at : ℕ) → Strict definitions
      → ((k : ℕ) (d : Definition) → k < at → k < length definitions → is_below scope key (get_or definitions k d)
      ≡ true)
      → ((k : ℕ) (d : Definition) → at ≤ k → k < length definitions → is_below scope key (get_or definitions k d)
      ≡ false)
      → own_at definitions at scope key ≡ own_in (firsts_of definitions) scope key
  halved [] at strict before after = refl
  halved (first ∷ definitions) (suc at) strict before after =
      let less = less_true (order (first_of first)) (before 0 first (omega arith) (omega arith)) in
      rw (is_other (first_of first) (ap is_eq less))
      (halved definitions at (λ i j d low within. strict (suc i) (suc j) d (omega arith) (omega arith))
      (λ k d low within. before (suc k) d (omega arith) (omega arith))
      (λ k d low within. after (suc k) d (omega arith) (omega arith)))
  halved (first ∷ definitions) zero strict before after =
      by_one (is_eq (order (first_of first))) refl
    where
      by_one : (a : Bool) → is_eq (order (first_of first)) ≡ a
          → own_at (first ∷ definitions) zero scope key ≡ own_in (firsts_of (first ∷ definitions)) scope key
      by_one true e =
          let here = is_one (first_of first) (equal_true (order (first_of first)) e) in
          rw (e, here) refl
      by_one false e =
          let more = more_false (order (first_of first)) (after 0 first (omega arith) (omega arith)) e in
          let none = none_behind definitions (λ k d within.
          IsTotalOrder.trans first_total (probe scope key) (first_of first) (first_of (get_or definitions k d))
          (turn (first_of first) more) (strict 0 (suc k) d (omega arith) (omega arith))) in
          rw (e, is_other (first_of first) e, none) refl

  pub own_halved : (definitions : List Definition) (at : ℕ) → AreStrict (firsts_of definitions)
      → IsPartitionPoint (λ d. is_below scope key d ≡ true) (λ d. is_below scope key d ≡ false) definitions at
      → own_at definitions at scope key ≡ own_in (firsts_of definitions) scope key
  own_halved definitions at strict part =
      halved definitions at (strict_of definitions strict)
      (λ k d low within. part.0 k d (omega arith) low) (λ k d low within. part.1 k d low within)
