-- The first scope from one on that defines a key, by the first of the definitions that is not below it.
use Rattle.std.specs.Prelude.{◌≡◌, ◌<◌, ◌≤◌, ◌⊎◌, ℕ, Bool, true, false, List, Option, Some, None, bytes_eq, is_some, length, nat_lt, slice_get}
use Rattle.std.specs.Cmp.Lexicographic.{slice_cmp}
use Rattle.std.specs.List.Sorted.{IsPartitionPoint}
use Rattle.std.specs.Ordering.{is_lt, nat_cmp}
use Rattle.std.proofs.Common.{Ordering, Less, Equal, Greater, refl, sym, ap, subst, ◌∙◌, arith, get_or, inl, inr}
use Rattle.std.proofs.lemmas.Bool.{cases_Bool, false≢true, true≢false}
use Rattle.std.proofs.lemmas.Bool.Decides.{nat_tests}
use Rattle.std.proofs.lemmas.Cmp.{nat_cmp_total, nat_list_cmp_total, ranked, tied_itself}
use Rattle.std.proofs.lemmas.Option.{get_or_from_slice_get, slice_get_cases}
use Rattle.dita_doc.proofs.NameOrder.{same_from_equal}
use Rattle.dita_doc.proofs.Tests.{equal_text, same_text}
use Rattle.key_scopes.specs.declared.definitions.Definition.{Definition}
use Rattle.key_scopes.specs.Defined.{AreStrict, IsNextHolder, first_order, is_below, own_at, probe, scope_at}
use Rattle.key_scopes.specs.Table.{first_of, firsts_of, own_in}
use Rattle.key_scopes.proofs.OrderLaws.{own_halved, parted}

-- The order of two numbers

number_less : (a b : ℕ) → a < b → nat_cmp a b ≡ Less
number_less a b less = by_order (nat_cmp a b) refl
  where
    by_order : (o : Ordering) → nat_cmp a b ≡ o → nat_cmp a b ≡ Less
    by_order Less e = e
    by_order Equal e = let same = ranked a b Equal (sym e) in absurd (omega (arith, same, less))
    by_order Greater e = let more = ranked a b Greater (sym e) in absurd (omega (arith, more, less))

number_below : (a b : ℕ) → is_lt (nat_cmp a b) ≡ true → a < b
number_below a b e = by_order (nat_cmp a b) refl
  where
    by_order : (o : Ordering) → nat_cmp a b ≡ o → a < b
    by_order Less f = ranked a b Less (sym f)
    by_order Equal f = absurd (false≢true (sym (ap is_lt f) ∙ e))
    by_order Greater f = absurd (false≢true (sym (ap is_lt f) ∙ e))

number_not_below : (a b : ℕ) → is_lt (nat_cmp a b) ≡ false → b ≤ a
number_not_below a b e = by_test (nat_lt a b) refl
  where
    by_test : (t : Bool) → nat_lt a b ≡ t → b ≤ a
    by_test true f =
        let less : a < b = grind (arith, nat_tests) in
        absurd (true≢false (sym (ap is_lt (number_less a b less)) ∙ e))
    by_test false f = grind (arith, nat_tests)

not_less : (a b : ℕ) → b ≤ a → is_lt (nat_cmp a b) ≡ false
not_less a b e = by_test (is_lt (nat_cmp a b)) refl
  where
    by_test : (t : Bool) → is_lt (nat_cmp a b) ≡ t → is_lt (nat_cmp a b) ≡ false
    by_test true f = let less = number_below a b f in absurd (omega (arith, less, e))
    by_test false f = f

number_behind : (a b : ℕ) → b < a → nat_cmp a b ≡ Greater
number_behind a b more = by_order (nat_cmp a b) refl
  where
    by_order : (o : Ordering) → nat_cmp a b ≡ o → nat_cmp a b ≡ Greater
    by_order Less e = let less = ranked a b Less (sym e) in absurd (omega (arith, less, more))
    by_order Equal e = let same = ranked a b Equal (sym e) in absurd (omega (arith, same, more))
    by_order Greater e = e

-- A definition, a key and scopes

module _ (scope : ℕ) (key : List ℕ) where
  -- below a scope it is below those behind
  below_more : (other : ℕ) (definition : Definition) → scope ≤ other → is_below scope key definition ≡ true
      → is_below other key definition ≡ true
  below_more other definition less below = by_order (slice_cmp nat_cmp definition.key key) refl
    where
      by_order : (o : Ordering) → slice_cmp nat_cmp definition.key key ≡ o → is_below other key definition ≡ true
      by_order Less e = rw e refl
      by_order Equal e =
          let low = number_below definition.scope scope (rw e at below) in
          rw e (ap is_lt (number_less definition.scope other (omega (arith, low, less))))
      by_order Greater e = let none = rw e at below in absurd (false≢true none)

  -- of another key, it is behind all scopes or none
  other_key : (other : ℕ) (definition : Definition) → bytes_eq key definition.key ≡ false
      → is_below scope key definition ≡ false
      → first_order (first_of definition) (probe other key) ≡ Greater
  other_key other definition differs above = by_order (slice_cmp nat_cmp definition.key key) refl
    where
      by_order : (o : Ordering) → slice_cmp nat_cmp definition.key key ≡ o
          → first_order (first_of definition) (probe other key) ≡ Greater
      by_order Less e = let none = rw e at above in absurd (true≢false none)
      by_order Equal e =
          absurd (true≢false (sym (equal_text key definition.key (sym (same_from_equal definition.key key e))) ∙ differs))
      by_order Greater e = rw e refl

one_key : (other : ℕ) (key : List ℕ) (definition : Definition) → bytes_eq key definition.key ≡ true
    → first_order (first_of definition) (probe other key) ≡ nat_cmp definition.scope other
one_key other key definition same =
    let text : definition.key ≡ key = sym (same_text key definition.key same) in
    rw (text, tied_itself nat_list_cmp_total key) refl

-- The place of the first that is not below

module _ (scope : ℕ) (key : List ℕ) (definitions : List Definition) (at : ℕ) (strict : AreStrict (firsts_of definitions))
    (part : IsPartitionPoint (λ d. is_below scope key d ≡ true) (λ d. is_below scope key d ≡ false) definitions at) where
  abbrev own_of : ℕ → Option ℕ
  own_of other = own_in (firsts_of definitions) other key

  -- up to the scope of the definition there it is also the place of the first that is not below the other
  own_there : (other : ℕ) → scope ≤ other
      → ((d : Definition) → at < length definitions → is_below other key (get_or definitions at d) ≡ false)
      → own_at definitions at other key ≡ own_of other
  own_there other less above =
      own_halved other key definitions at strict (
        (λ k d low high. below_more scope key other (get_or definitions k d) less (part.0 k d low high)),
        λ k d low high. by_test k d low high (cases_Bool (is_below other key (get_or definitions k d))),
      )
    where
      by_test : (k : ℕ) (d : Definition) → at ≤ k → k < length definitions
          → (is_below other key (get_or definitions k d) ≡ true) ⊎ (is_below other key (get_or definitions k d) ≡ false)
          → is_below other key (get_or definitions k d) ≡ false
      by_test k d low high (inr e) = e
      by_test k d low high (inl e) =
          absurd (true≢false (sym (parted other key definitions strict at k d low high e) ∙ above d (omega (arith, low, high))))

  pub next_holder : IsNextHolder own_of scope (scope_at definitions at key)
  next_holder = by_place (slice_get_cases definitions at).1
    where
      by_place : ((x : Definition) × (at < length definitions) × (slice_get definitions at ≡ Some x) × (get_or definitions at x ≡ x))
          ⊎ ((length definitions ≤ at) × (slice_get definitions at ≡ None))
          → IsNextHolder own_of scope (scope_at definitions at key)
      by_place (inr past) =
          let out = past.0 in
          let none : scope_at definitions at key ≡ None = rw past.1 refl in
          subst (IsNextHolder own_of scope) (sym none) (λ other less.
          let here : own_at definitions at other key ≡ None = rw past.1 refl in
          sym (own_there other less (λ d within. absurd (omega (arith, out, within)))) ∙ here)
      by_place (inl found) = by_key (bytes_eq key found.0.key) refl
        where
          there : (d : Definition) → get_or definitions at d ≡ found.0
          there d = get_or_from_slice_get definitions at found.0 d found.2

          above : is_below scope key found.0 ≡ false
          above = ap (is_below scope key) (sym (there found.0)) ∙ part.1 at found.0 (omega arith) found.1

          by_key : (a : Bool) → bytes_eq key found.0.key ≡ a → IsNextHolder own_of scope (scope_at definitions at key)
          by_key true e =
              let some : scope_at definitions at key ≡ Some found.0.scope = rw (found.2, e) refl in
              let order : (other : ℕ) → first_order (first_of found.0) (probe other key) ≡ nat_cmp found.0.scope other =
              λ other. one_key other key found.0 e in
              let from = number_not_below found.0.scope scope (ap is_lt (sym (order scope)) ∙ above) in
              let own : (other : ℕ) → scope ≤ other → other ≤ found.0.scope
              → own_at definitions at other key ≡ own_of other = λ other less within. own_there other less (λ d inside.
              ap (is_below other key) (there d) ∙ ap is_lt (order other) ∙ not_less found.0.scope other within) in
              subst (IsNextHolder own_of scope) (sym some) (record {
                behind = from;
                holds =
                    let here : own_at definitions at found.0.scope key ≡ Some found.0.node =
                    rw (found.2, order found.0.scope, tied_itself nat_cmp_total found.0.scope) refl in
                    ap is_some (sym (own found.0.scope from (omega arith)) ∙ here);
                first = λ other less before.
                    let here : own_at definitions at other key ≡ None =
                    rw (found.2, order other, number_behind found.0.scope other before) refl in
                    sym (own other less (omega (arith, before))) ∙ here;
              })
          by_key false e =
              let none : scope_at definitions at key ≡ None = rw (found.2, e) refl in
              subst (IsNextHolder own_of scope) (sym none) (λ other less.
              let order = other_key scope key other found.0 e above in
              let here : own_at definitions at other key ≡ None = rw (found.2, order) refl in
              sym (own_there other less (λ d inside. ap (is_below other key) (there d) ∙ ap is_lt order)) ∙ here)
