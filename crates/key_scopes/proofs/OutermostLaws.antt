-- The place of the outermost definition that stands at each, and the search for it.
use Rattle.std.specs.Prelude.{◌≡◌, ◌+◌, ◌-◌, ◌<◌, ◌≤◌, ◌==◌, ◌&&◌, ◌⊎◌, ℕ, zero, suc, Bool, true, false, List, Some, None, bytes_eq, length, nat_lt, slice_get, take, if◌then◌else◌}
use Rattle.std.specs.Cmp.{IsTotalOrder}
use Rattle.std.specs.Cmp.Lexicographic.{slice_cmp}
use Rattle.std.specs.List.Sorted.{IsPartitionPoint, IsPartitionedBy}
use Rattle.std.specs.Option.{option_and_then, option_map_or}
use Rattle.std.specs.Ordering.{is_gt, nat_cmp, ordering_index, ordering_reverse, ordering_then}
use Rattle.std.proofs.Common.{Ordering, Less, Equal, Greater, refl, sym, ap, subst, ◌∙◌, arith, get_or, inl, inr, not}
use Rattle.std.proofs.lemmas.Bool.{cases_Bool, eqb-true, not-false, not-true, true≢false}
use Rattle.std.proofs.lemmas.Bool.Decides.{nat_tests}
use Rattle.std.proofs.lemmas.Cmp.{nat_list_cmp_total, ranked, tied_itself, upto}
use Rattle.std.proofs.lemmas.List.{length-take}
use Rattle.dita_doc.proofs.Lists.{some_at}
use Rattle.dita_doc.proofs.NameOrder.{same_from_equal}
use Rattle.dita_doc.proofs.Tests.{equal_text, same_text}
use Rattle.key_scopes.specs.declared.definitions.Definition.{Definition}
use Rattle.key_scopes.specs.Above.{encloses}
use Rattle.key_scopes.specs.Defined.{AreStrict, first_order, is_behind, probe}
use Rattle.key_scopes.specs.Outermost.{AreNested, AreTopped, IsOutermost, last_of, outermost_by, scope_in, top_by, top_for}
use Rattle.key_scopes.specs.Table.{First, first_of, firsts_of}
use Rattle.key_scopes.proofs.NestedLaws.{encloses_it, high_of, low_of}
use Rattle.key_scopes.proofs.OrderLaws.{first_total, strict_of}
use Rattle.key_scopes.proofs.ToppedLaws.{Found, found, taken}

-- Orders

first_part : (a b : Ordering) → is_gt (ordering_then a b) ≡ false → is_gt a ≡ false
first_part Less b e = refl
first_part Equal b e = refl
first_part Greater b e = cc

less_not : (o : Ordering) → o ≡ Less → is_gt o ≡ false
less_not o e = ap is_gt e

-- a key between two of the same key is the same
between : (a b c : First) → is_gt (first_order a b) ≡ false → is_gt (first_order b c) ≡ false → a.key ≡ c.key
    → b.key ≡ a.key
between a b c first second same =
    by_order (slice_cmp nat_cmp b.key a.key) (slice_cmp nat_cmp a.key b.key) refl
    (IsTotalOrder.antisymm nat_list_cmp_total a.key b.key)
    (first_part (slice_cmp nat_cmp a.key b.key) (nat_cmp a.scope b.scope) first)
    (ap (λ k. is_gt (slice_cmp nat_cmp b.key k)) same
    ∙ first_part (slice_cmp nat_cmp b.key c.key) (nat_cmp b.scope c.scope) second)
  where
    by_order : (o r : Ordering) → slice_cmp nat_cmp b.key a.key ≡ o → r
        ≡ ordering_reverse (slice_cmp nat_cmp b.key a.key)
        → is_gt r ≡ false → is_gt (slice_cmp nat_cmp b.key a.key) ≡ false → b.key ≡ a.key
    by_order Equal r e f g h = same_from_equal b.key a.key e
    by_order Less r e f g h =
        absurd (true≢false (sym (ap is_gt (f ∙ ap ordering_reverse e)) ∙ g))
    by_order Greater r e f g h = absurd (true≢false (sym (ap is_gt e) ∙ h))

-- of one key the scope is not higher
scope_order : (a b : First) → is_gt (first_order a b) ≡ false → a.key ≡ b.key → a.scope ≤ b.scope
scope_order a b e same =
    by_order (nat_cmp a.scope b.scope) refl
    (sym (ap (λ o. is_gt (ordering_then o (nat_cmp a.scope b.scope)))
    (ap (slice_cmp nat_cmp a.key) (sym same) ∙ tied_itself nat_list_cmp_total a.key)) ∙ e)
  where
    by_order : (o : Ordering) → nat_cmp a.scope b.scope ≡ o → is_gt (nat_cmp a.scope b.scope) ≡ false
        → a.scope ≤ b.scope
    by_order Less f g = let less : a.scope < b.scope = ranked a.scope b.scope Less (sym f) in omega (arith, less)
    by_order Equal f g = let is : a.scope ≡ b.scope = ranked a.scope b.scope Equal (sym f) in omega (arith, is)
    by_order Greater f g = absurd (true≢false (sym (ap is_gt f) ∙ g))

not_behind : (a b : First) → a.key ≡ b.key → a.scope ≤ b.scope → is_gt (first_order a b) ≡ false
not_behind a b same low =
    ap (λ o. is_gt (ordering_then o (nat_cmp a.scope b.scope)))
    (ap (slice_cmp nat_cmp a.key) (sym same) ∙ tied_itself nat_list_cmp_total a.key)
    ∙ by_order (nat_cmp a.scope b.scope) refl
  where
    by_order : (o : Ordering) → nat_cmp a.scope b.scope ≡ o → is_gt (nat_cmp a.scope b.scope) ≡ false
    by_order Less f = ap is_gt f
    by_order Equal f = ap is_gt f
    by_order Greater f = let more : b.scope < a.scope = ranked a.scope b.scope Greater (sym f) in absurd
        (omega (arith, more))

module _ (ends : List ℕ) (nested : AreNested ends) (definitions : List Definition)
    (strict : AreStrict (firsts_of definitions)) where
  in_order : (i j : ℕ) (a b : Definition) → slice_get definitions i ≡ Some a → slice_get definitions j ≡ Some b → i ≤ j
      → is_gt (first_order (first_of a) (first_of b)) ≡ false
  in_order i j a b first second low = by_test (cases_Bool (i == j))
    where
      one : Found definitions i a
      one = found definitions i a first

      two : Found definitions j b
      two = found definitions j b second

      by_test : ((i == j) ≡ true) ⊎ ((i == j) ≡ false) → is_gt (first_order (first_of a) (first_of b)) ≡ false
      by_test (inl same) =
          let is = eqb-true i j same in
          let alike : a ≡ b = sym (one.got a) ∙ ap (λ n. get_or definitions n a) is ∙ two.got a in
          ap (λ (d : Definition). is_gt (first_order (first_of a) (first_of d))) (sym alike)
          ∙ ap is_gt (tied_itself first_total (first_of a))
      by_test (inr differs) =
          let less : i < j = grind (arith, nat_tests) in
          ap (λ (d : Definition). is_gt (first_order (first_of d) (first_of b))) (sym (one.got a))
          ∙ ap (λ (d : Definition). is_gt (first_order (first_of (get_or definitions i a)) (first_of d)))
          (sym (two.got a))
          ∙ less_not (first_order (first_of (get_or definitions i a)) (first_of (get_or definitions j a)))
          (strict_of definitions strict i j a less two.within)

  record IsTop (at : ℕ) (own : Definition) (top : ℕ) : Type 0 where
    low : top ≤ at
    first : Definition
    is : slice_get definitions top ≡ Some first
    of_key : first.key ≡ own.key
    around : (top ≡ at) ⊎ (encloses ends first.scope own.scope ≡ true)
    least : (place : ℕ) (other : Definition) → slice_get definitions place ≡ Some other → place ≤ at
        → other.key ≡ own.key → encloses ends other.scope own.scope ≡ true → first.scope ≤ other.scope

  -- the last definition of the key that is not behind a scope, and what encloses this scope
  module _ (at : ℕ) (own : Definition) (own_is : slice_get definitions at ≡ Some own) (top : IsTop at own own.top)
      (scope : ℕ) (low : own.scope ≤ scope) where
    inside : (place : ℕ) (other : Definition) → slice_get definitions place ≡ Some other → place ≤ at
        → other.key ≡ own.key → encloses ends other.scope scope ≡ true → encloses ends other.scope own.scope ≡ true
    inside place other is before same around =
        let under = scope_order (first_of other) (first_of own) (in_order place at other own is own_is before) same in
        let high = high_of ends other.scope scope around in
        encloses_it ends other.scope own.scope under (omega (arith, high, low))

    least_here : (place : ℕ) (other : Definition) → slice_get definitions place ≡ Some other → place ≤ at
        → other.key ≡ own.key → encloses ends other.scope scope ≡ true → top.first.scope ≤ other.scope
    least_here place other is before same around =
        top.least place other is before same (inside place other is before same around)

    none_here : encloses ends top.first.scope scope ≡ false → (place : ℕ) (other : Definition)
        → slice_get definitions place ≡ Some other → place ≤ at → other.key ≡ own.key
        → encloses ends other.scope scope ≡ true → ⊥
    none_here not_around place other is before same around =
        true≢false (sym (by_top top.around) ∙ not_around)
      where
        least : top.first.scope ≤ other.scope
        least = least_here place other is before same around

        by_top : (own.top ≡ at) ⊎ (encloses ends top.first.scope own.scope ≡ true)
            → encloses ends top.first.scope scope ≡ true
        by_top (inl itself) =
            let same_top : top.first ≡ own =
            sym ((found definitions own.top top.first top.is).got own)
            ∙ ap (λ n. get_or definitions n own) itself ∙ (found definitions at own own_is).got own in
            let under = scope_order (first_of other) (first_of own) (in_order place at other own is own_is before)
            same in
            let top_scope : top.first.scope ≡ own.scope = ap (λ (d : Definition). d.scope) same_top in
            let scopes_same : other.scope ≡ top.first.scope = omega (arith, under, least, top_scope) in
            subst (λ s. encloses ends s scope ≡ true) scopes_same around
        by_top (inr above) =
            let under = scope_order (first_of other) (first_of own) (in_order place at other own is own_is before)
            same in
            let high = high_of ends top.first.scope own.scope above in
            nested top.first.scope other.scope scope
            (encloses_it ends top.first.scope other.scope least (omega (arith, under, high))) around

  -- Each has its top

  itself : (at : ℕ) (own : Definition) → slice_get definitions at ≡ Some own → own.top ≡ at
      → ((place : ℕ) (other : Definition) → slice_get definitions place ≡ Some other → place < at → other.key ≡ own.key
      → encloses ends other.scope own.scope ≡ true → ⊥) → IsTop at own own.top
  itself at own is top none = record {
    low = omega (arith, top);
    first = own;
    is = ap (slice_get definitions) top ∙ is;
    of_key = refl;
    around = inl top;
    least = λ place other there_is low same around. by_test place other there_is same around
        (cases_Bool (place == at)) low;
  }
    where
      by_test : (place : ℕ) (other : Definition) → slice_get definitions place ≡ Some other → other.key ≡ own.key
          → encloses ends other.scope own.scope ≡ true → ((place == at) ≡ true) ⊎ ((place == at) ≡ false) → place ≤ at
          → own.scope ≤ other.scope
      by_test place other there_is same around (inl here) low =
          let alike : other ≡ own = sym ((found definitions place other there_is).got own)
          ∙ ap (λ n. get_or definitions n own) (eqb-true place at here) ∙ (found definitions at own is).got own in
          let scopes_same : other.scope ≡ own.scope = ap (λ (d : Definition). d.scope) alike in
          omega (arith, scopes_same)
      by_test place other there_is same around (inr differs) low =
          let less : place < at = grind (arith, nat_tests) in absurd (none place other there_is less same around)

  -- the one before has the key too, if one before it has
  key_before : (at place : ℕ) (own last other : Definition) → slice_get definitions (suc at) ≡ Some own
      → slice_get definitions at ≡ Some last → slice_get definitions place ≡ Some other → place < suc at
      → other.key ≡ own.key → last.key ≡ own.key
  key_before at place own last other own_is last_is other_is low same =
      between (first_of other) (first_of last) (first_of own)
      (in_order place at other last other_is last_is (omega arith))
      (in_order at (suc at) last own last_is own_is (omega arith)) same ∙ same

  scope_before : (at : ℕ) (own last : Definition) → slice_get definitions (suc at) ≡ Some own
      → slice_get definitions at ≡ Some last → last.key ≡ own.key → last.scope ≤ own.scope
  scope_before at own last own_is last_is same =
      scope_order (first_of last) (first_of own) (in_order at (suc at) last own last_is own_is (omega arith)) same

  top_is : (at : ℕ) (own last : Definition) → slice_get definitions at ≡ Some last → suc at < length definitions
      → (top : IsTop at last last.top) → top_for ends (take (suc at) definitions) own.key own.scope
      ≡ (if bytes_eq own.key last.key && encloses ends top.first.scope own.scope then last.top else suc at)
  top_is at own last last_is within top =
      let all = take (suc at) definitions in
      let long : length all ≡ suc at = omega (arith, length-take (suc at) definitions, within) in
      let place : length all - 1 ≡ at = omega (arith, long) in
      let scope : scope_in all last.top ≡ top.first.scope =
      ap (λ f. option_map_or (λ (d : Definition). d.scope) f 0)
      (taken definitions (suc at) last.top (let low = top.low in omega (arith, low)) ∙ top.is) in
      ap (λ f. option_map_or (λ (d : Definition). if bytes_eq own.key d.key
      && encloses ends (scope_in all d.top) own.scope then d.top else length all) f (length all))
      (ap (slice_get all) place ∙ taken definitions (suc at) at (omega arith) ∙ last_is)
      ∙ ap (λ n. if bytes_eq own.key last.key && encloses ends (scope_in all last.top) own.scope then last.top else
      n) long
      ∙ ap (λ n. if bytes_eq own.key last.key && encloses ends n own.scope then last.top else suc at) scope

  next_top : (at : ℕ) (own last : Definition) → slice_get definitions (suc at) ≡ Some own
      → slice_get definitions at ≡ Some last → (top : IsTop at last last.top)
      → own.top ≡ (if bytes_eq own.key last.key && encloses ends top.first.scope own.scope then last.top else suc at)
      → (a b : Bool) → bytes_eq own.key last.key ≡ a → encloses ends top.first.scope own.scope ≡ b
      → IsTop (suc at) own own.top
  next_top at own last own_is last_is top is false b e f =
      itself (suc at) own own_is (is ∙ rw e refl) (λ place other other_is low same around.
      true≢false (sym (equal_text own.key last.key
      (sym (key_before at place own last other own_is last_is other_is low same)))
      ∙ e))
  next_top at own last own_is last_is top is true false e f =
      let text = same_text own.key last.key e in
      itself (suc at) own own_is (is ∙ rw (e, f) refl) (λ place other other_is low same around.
      none_here at last last_is top own.scope (scope_before at own last own_is last_is (sym text)) f place other
      other_is
      (omega arith) (same ∙ text) around)
  next_top at own last own_is last_is top is true true e f =
      let text = same_text own.key last.key e in
      let same_top : own.top ≡ last.top = is ∙ rw (e, f) refl in
      record {
        low = let low = top.low in omega (arith, low, same_top);
        first = top.first;
        is = ap (slice_get definitions) same_top ∙ top.is;
        of_key = top.of_key ∙ sym text;
        around = inr f;
        least = λ place other other_is low same around. by_test text place other other_is low same around
            (cases_Bool (place == suc at));
      }
    where
      by_test : own.key ≡ last.key → (place : ℕ) (other : Definition) → slice_get definitions place ≡ Some other
          → place ≤ suc at → other.key ≡ own.key → encloses ends other.scope own.scope ≡ true
          → ((place == suc at) ≡ true) ⊎ ((place == suc at) ≡ false) → top.first.scope ≤ other.scope
      by_test text place other other_is low same around (inl here) =
          let alike : other ≡ own = sym ((found definitions place other other_is).got own)
          ∙ ap (λ n. get_or definitions n own) (eqb-true place (suc at) here)
          ∙ (found definitions (suc at) own own_is).got own in
          let scopes_same : other.scope ≡ own.scope = ap (λ (d : Definition). d.scope) alike in
          let under = low_of ends top.first.scope own.scope f in
          omega (arith, scopes_same, under)
      by_test text place other other_is low same around (inr differs) =
          let less : place ≤ at = grind (arith, nat_tests) in
          least_here at last last_is top own.scope (scope_before at own last own_is last_is (sym text)) place other
          other_is
          less (same ∙ text) around

  one_top : AreTopped ends definitions → (at : ℕ) (own : Definition) → slice_get definitions at ≡ Some own
      → IsTop at own own.top
  one_top topped zero own is =
      itself zero own is (topped zero own is) (λ place other other_is low same around. omega arith)
  one_top topped (suc at) own is =
      let here = found definitions (suc at) own is in
      let last = some_at definitions at (let low = here.within in omega (arith, low)) in
      let top = one_top topped at last.0 last.1 in
      next_top at own last.0 is last.1 top (topped (suc at) own is ∙ top_is at own last.0 last.1 here.within top)
      (bytes_eq own.key last.0.key) (encloses ends top.first.scope own.scope) refl refl

  -- The outermost definition

  module _ (topped : AreTopped ends definitions) (scope : ℕ) (key : List ℕ) (count : ℕ)
      (front : (i : ℕ) (d : Definition) → i < count → i < length definitions
      → is_behind scope key (get_or definitions i d) ≡ false)
      (back : (i : ℕ) (d : Definition) → count ≤ i → i < length definitions
      → is_behind scope key (get_or definitions i d) ≡ true) where
    -- one of the key that encloses the scope stands in front
    in_front : (place : ℕ) (other : Definition) → slice_get definitions place ≡ Some other → other.key ≡ key
        → encloses ends other.scope scope ≡ true → place < count
    in_front place other other_is same around = by_test (cases_Bool (nat_lt place count))
      where
        one : Found definitions place other
        one = found definitions place other other_is

        by_test : (nat_lt place count ≡ true) ⊎ (nat_lt place count ≡ false) → place < count
        by_test (inl low) = grind (arith, nat_tests)
        by_test (inr high) =
            let more : count ≤ place = grind (arith, nat_tests) in
            absurd (true≢false (sym (back place other more one.within)
            ∙ ap (is_behind scope key) (one.got other)
            ∙ not_behind (first_of other) (probe scope key) same (low_of ends other.scope scope around)))

    not_after : (at : ℕ) (last : Definition) → slice_get definitions at ≡ Some last → at < count
        → is_gt (first_order (first_of last) (probe scope key)) ≡ false
    not_after at last last_is low =
        let one = found definitions at last last_is in
        ap (is_behind scope key) (sym (one.got last)) ∙ front at last low one.within

    by_key : (at : ℕ) (last : Definition) → slice_get definitions at ≡ Some last → at + 1 ≡ count
        → (top : IsTop at last last.top) → (a b : Bool) → bytes_eq key last.key ≡ a
        → encloses ends top.first.scope scope ≡ b
        → IsOutermost ends definitions scope key (top_by ends definitions scope key last)
    by_key at last last_is long top false b e f =
        let is : top_by ends definitions scope key last ≡ None = rw e refl in
        subst (IsOutermost ends definitions scope key) (sym is)
        (λ place other other_is same. by_test place other other_is same (encloses ends other.scope scope) refl)
      where
        by_test : (place : ℕ) (other : Definition) → slice_get definitions place ≡ Some other → other.key ≡ key
            → (a : Bool) → encloses ends other.scope scope ≡ a → encloses ends other.scope scope ≡ false
        by_test place other other_is same false g = g
        by_test place other other_is same true g =
            let low = in_front place other other_is same g in
            let of_key : last.key ≡ other.key =
            between (first_of other) (first_of last) (probe scope key)
            (in_order place at other last other_is last_is (omega (arith, low, long)))
            (not_after at last last_is (omega (arith, long))) same in
            absurd (true≢false (sym (equal_text key last.key (sym (of_key ∙ same))) ∙ e))
    by_key at last last_is long top true false e f =
        let is : top_by ends definitions scope key last ≡ None = rw (e, top.is, f) refl in
        subst (IsOutermost ends definitions scope key) (sym is)
        (λ place other other_is same. by_test place other other_is same (encloses ends other.scope scope) refl)
      where
        text : key ≡ last.key
        text = same_text key last.key e

        by_test : (place : ℕ) (other : Definition) → slice_get definitions place ≡ Some other → other.key ≡ key
            → (a : Bool) → encloses ends other.scope scope ≡ a → encloses ends other.scope scope ≡ false
        by_test place other other_is same false g = g
        by_test place other other_is same true g =
            let low = in_front place other other_is same g in
            absurd (none_here at last last_is top scope
            (scope_order (first_of last) (probe scope key) (not_after at last last_is (omega (arith, long))) (sym text))
            f place other other_is (omega (arith, low, long)) (same ∙ text) g)
    by_key at last last_is long top true true e f =
        let is : top_by ends definitions scope key last ≡ Some top.first = rw (e, top.is, f) refl in
        subst (IsOutermost ends definitions scope key) (sym is) (record {
          at = last.top;
          is = top.is;
          of_key = top.of_key ∙ sym (same_text key last.key e);
          around = f;
          least = λ place other other_is same g.
              let text = same_text key last.key e in
              let low = in_front place other other_is same g in
              least_here at last last_is top scope
              (scope_order (first_of last) (probe scope key) (not_after at last last_is (omega (arith, long)))
              (sym text))
              place other other_is (omega (arith, low, long)) (same ∙ text) g;
        })

    pub outermost_is : count ≤ length definitions
        → IsOutermost ends definitions scope key (outermost_by ends definitions count scope key)
    outermost_is within = by_count count refl within
      where
        by_count : (n : ℕ) → n ≡ count → n ≤ length definitions
            → IsOutermost ends definitions scope key (option_and_then (top_by ends definitions scope key)
            (last_of definitions n))
        by_count zero same low = λ place other other_is of_key.
            by_test place other other_is of_key (encloses ends other.scope scope) refl
          where
            by_test : (place : ℕ) (other : Definition) → slice_get definitions place ≡ Some other → other.key ≡ key
                → (a : Bool) → encloses ends other.scope scope ≡ a → encloses ends other.scope scope ≡ false
            by_test place other other_is of_key false g = g
            by_test place other other_is of_key true g =
                let under = in_front place other other_is of_key g in absurd (omega (arith, under, same))
        by_count (suc at) same low =
            let last = some_at definitions at low in
            let top = one_top topped at last.0 last.1 in
            subst (λ f. IsOutermost ends definitions scope key (option_and_then (top_by ends definitions scope key) f))
            (sym last.1)
            (by_key at last.0 last.1 (omega (arith, same)) top (bytes_eq key last.0.key)
            (encloses ends top.first.scope scope) refl refl)

-- Halving by what is behind

not_more : (o : Ordering) → not (is_gt o) ≡ true → is_gt o ≡ false
not_more Less e = refl
not_more Equal e = refl
not_more Greater e = cc

pub parted_behind : (scope : ℕ) (key : List ℕ) (definitions : List Definition) → AreStrict (firsts_of definitions)
    → IsPartitionedBy (λ d. not (is_behind scope key d)) definitions
parted_behind scope key definitions strict i j d le inside before = by_test (cases_Bool (i == j))
  where
    by_test : ((i == j) ≡ true) ⊎ ((i == j) ≡ false) → not (is_behind scope key (get_or definitions i d)) ≡ true
    by_test (inl same) =
        ap (λ n. not (is_behind scope key (get_or definitions n d))) (eqb-true i j same) ∙ before
    by_test (inr differs) =
        let less : i < j = grind (arith, nat_tests) in
        ap not (upto first_total (first_of (get_or definitions i d)) (first_of (get_or definitions j d))
        (probe scope key)
        (less_not (first_order (first_of (get_or definitions i d)) (first_of (get_or definitions j d)))
        (strict_of definitions strict i j d less inside))
        (not_more (first_order (first_of (get_or definitions j d)) (probe scope key)) before))

pub outermost_halved : (ends : List ℕ) (definitions : List Definition) (scope : ℕ) (key : List ℕ) (count : ℕ)
    → AreNested ends → AreStrict (firsts_of definitions) → AreTopped ends definitions → count ≤ length definitions
    → IsPartitionPoint (λ d. not (is_behind scope key d) ≡ true) (λ d. not (is_behind scope key d)
    ≡ false) definitions count
    → IsOutermost ends definitions scope key (outermost_by ends definitions count scope key)
outermost_halved ends definitions scope key count nested strict topped within part =
    outermost_is ends nested definitions strict topped scope key count
    (λ i d low inside. not-true (is_behind scope key (get_or definitions i d)) (part.0 i d (omega arith) low))
    (λ i d low inside. not-false (is_behind scope key (get_or definitions i d)) (part.1 i d low inside)) within

pub not_greater : (o : Ordering) → not (ordering_index o == ordering_index Greater) ≡ not (is_gt o)
not_greater Less = refl
not_greater Equal = refl
not_greater Greater = refl
