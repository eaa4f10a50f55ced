-- The first definitions among entries in their order stand in the order of keys and scopes, each key once in a scope.
use Rattle.std.specs.Prelude.{◌≡◌, ◌+◌, ◌-◌, ◌<◌, ◌==◌, ◌++◌, ◌⊎◌, ℕ, zero, suc, Bool, true, false, List, [], ◌∷◌, filter, length}
use Rattle.std.specs.Cmp.{IsTotalOrder}
use Rattle.std.specs.List.{All}
use Rattle.std.specs.Ordering.{is_gt, is_lt, nat_cmp, ordering_reverse, ordering_then}
use Rattle.std.proofs.Common.{Ordering, Less, Equal, Greater, refl, sym, ap, subst, ◌∙◌, arith, get_or, inl, inr, length-append}
use Rattle.std.proofs.Math.Seq.{get_or-append_seam}
use Rattle.std.proofs.lemmas.Bool.{cases_Bool, eqb-true, true≢false}
use Rattle.std.proofs.lemmas.Bool.Decides.{nat_tests}
use Rattle.std.proofs.lemmas.Cmp.{nat_cmp_total, nat_list_cmp_total, tied_itself}
use Rattle.std.proofs.lemmas.List.{get_or_append_left}
use Rattle.std.proofs.lemmas.List.Elements.{All-cons, All-filter, All-from_get_or, All-get_or, All-head, All-nil, All-push, All-tail, All-weaker}
use Rattle.key_scopes.specs.Defined.{AreFirsts, AreOrdered, AreStrict, first_by, first_order, firsts_by, is_entry_before, is_last_of, is_level_within, with_first}
use Rattle.key_scopes.specs.Numbered.{KeyEntry}
use Rattle.key_scopes.specs.Table.{First, is_first}
use Rattle.key_scopes.proofs.OrderLaws.{first_total, is_one}

abbrev NotAfter : KeyEntry → First → Type 0
NotAfter entry first = is_gt (first_order first (first_by entry)) ≡ false

abbrev AllNotAfter : List First → KeyEntry → Type 0
AllNotAfter firsts entry = All (NotAfter entry) firsts

-- One more first definition

strict_push : (firsts : List First) (x : First) → AreStrict firsts
    → ((i : ℕ) (d : First) → i < length firsts → first_order (get_or firsts i d) x ≡ Less)
    → AreStrict (firsts ++ x ∷ [])
strict_push firsts x strict below i j d low within =
    by_test (cases_Bool (j == length firsts))
  where
    by_test : ((j == length firsts) ≡ true) ⊎ ((j == length firsts) ≡ false)
        → first_order (get_or (firsts ++ x ∷ []) i d) (get_or (firsts ++ x ∷ []) j d) ≡ Less
    by_test (inl same) =
        let is = eqb-true j (length firsts) same in
        ap (λ n. first_order (get_or (firsts ++ x ∷ []) i d) (get_or (firsts ++ x ∷ []) n d)) is
        ∙ ap (first_order (get_or (firsts ++ x ∷ []) i d)) (get_or-append_seam firsts x [] d)
        ∙ ap (λ f. first_order f x) (get_or_append_left firsts (x ∷ []) d i (omega (arith, low, is)))
        ∙ below i d (omega (arith, low, is))
    by_test (inr differs) =
        let long = length-append firsts (x ∷ []) in
        let less : j < length firsts = grind (arith, nat_tests, long, within) in
        ap (λ f. first_order f (get_or (firsts ++ x ∷ []) j d)) (get_or_append_left firsts (x ∷ []) d i (omega (arith, low, less)))
        ∙ ap (first_order (get_or firsts i d)) (get_or_append_left firsts (x ∷ []) d j less)
        ∙ strict i j d low less

-- the last one is of the entry's key and scope only if it says so
last_one : (firsts : List First) (entry : KeyEntry) (d : First) (at : ℕ) → at + 1 ≡ length firsts
    → is_last_of firsts entry ≡ is_first entry.1 entry.0 (get_or firsts at d)
last_one [] entry d at long = absurd (omega arith)
last_one (first ∷ []) entry d zero long = refl
last_one (first ∷ []) entry d (suc at) long = absurd (omega arith)
last_one (first ∷ next ∷ firsts) entry d zero long = absurd (omega arith)
last_one (first ∷ next ∷ firsts) entry d (suc at) long = last_one (next ∷ firsts) entry d at (omega arith)

not_equal : (o : Ordering) → is_gt o ≡ false → (o ≡ Equal → ⊥) → o ≡ Less
not_equal Less e other = refl
not_equal Equal e other = absurd (other refl)
not_equal Greater e other = cc

module _ (firsts : List First) (entry : KeyEntry) (strict : AreStrict firsts) (not_after : AllNotAfter firsts entry)
    (other : is_last_of firsts entry ≡ false) where
  at_last : (d : First) (at : ℕ) → at + 1 ≡ length firsts → first_order (get_or firsts at d) (first_by entry) ≡ Less
  at_last d at long =
      not_equal (first_order (get_or firsts at d) (first_by entry))
      (All-get_or (NotAfter entry) firsts at d (omega (arith, long)) not_after)
      (λ same. true≢false (sym (last_one firsts entry d at long
      ∙ is_one entry.1 entry.0 (get_or firsts at d) same) ∙ other))

  below_it : (i : ℕ) (d : First) → i < length firsts → first_order (get_or firsts i d) (first_by entry) ≡ Less
  below_it i d within = by_test (cases_Bool (i == length firsts - 1))
    where
      by_test : ((i == length firsts - 1) ≡ true) ⊎ ((i == length firsts - 1) ≡ false)
          → first_order (get_or firsts i d) (first_by entry) ≡ Less
      by_test (inl same) =
          let is = eqb-true i (length firsts - 1) same in at_last d i (omega (arith, is, within))
      by_test (inr differs) =
          let less : i < length firsts - 1 = grind (arith, nat_tests) in
          IsTotalOrder.trans first_total (get_or firsts i d) (get_or firsts (length firsts - 1) d) (first_by entry)
          (strict i (length firsts - 1) d less (omega arith))
          (at_last d (length firsts - 1) (omega arith))

-- An entry that stands before none of those in front of it

pub first_part : (a b c : Ordering) → is_lt (ordering_then (ordering_then a b) c) ≡ false → is_lt a ≡ false
first_part Less b c e = e
first_part Equal b c e = refl
first_part Greater b c e = refl

turned : (o r : Ordering) → r ≡ ordering_reverse o → is_lt o ≡ false → is_gt r ≡ false
turned Less r is e = cc
turned Equal r is e = rw is refl
turned Greater r is e = rw is refl

entry_after : (first later : KeyEntry) → is_entry_before later first ≡ false → NotAfter later (first_by first)
entry_after first later e =
    turned (first_order (first_by later) (first_by first)) (first_order (first_by first) (first_by later))
    (IsTotalOrder.antisymm first_total (first_by first) (first_by later))
    (first_part (first_order (first_by later) (first_by first)) (nat_cmp later.2 first.2) (nat_cmp later.3 first.3) e)

ordered_tail : (first : KeyEntry) (entries : List KeyEntry) → AreOrdered (first ∷ entries) → AreOrdered entries
ordered_tail first entries ordered = λ i j d low high. ordered (suc i) (suc j) d (omega arith) (omega arith)

all_after : (first : KeyEntry) (entries : List KeyEntry) → AreOrdered (first ∷ entries)
    → All (λ later. NotAfter later (first_by first)) entries
all_after first entries ordered = All-from_get_or (λ later. NotAfter later (first_by first)) entries first
    (λ j within. entry_after first (get_or entries j first) (ordered 0 (suc j) first (omega arith) (omega arith)))

both_all : (P Q : KeyEntry → Type 0) (entries : List KeyEntry) → All P entries → All Q entries
    → All (λ e. P e × Q e) entries
both_all P Q [] one two = All-nil (λ e. P e × Q e)
both_all P Q (e ∷ entries) one two =
    All-cons (λ x. P x × Q x) e entries (All-head P e entries one, All-head Q e entries two)
    (both_all P Q entries (All-tail P e entries one) (All-tail Q e entries two))

strict_by : (entries : List KeyEntry) (firsts : List First) → AreOrdered entries → AreStrict firsts
    → All (AllNotAfter firsts) entries → AreStrict (firsts_by firsts entries)
strict_by [] firsts ordered strict not_after = strict
strict_by (entry ∷ entries) firsts ordered strict not_after =
    strict_by entries (with_first firsts entry) (ordered_tail entry entries ordered)
    (by_last (is_last_of firsts entry) refl) (after_last (is_last_of firsts entry) refl)
  where
    here : AllNotAfter firsts entry
    here = All-head (AllNotAfter firsts) entry entries not_after

    behind : All (AllNotAfter firsts) entries
    behind = All-tail (AllNotAfter firsts) entry entries not_after

    by_last : (a : Bool) → is_last_of firsts entry ≡ a → AreStrict (with_first firsts entry)
    by_last true e = rw e strict
    by_last false e = rw e (strict_push firsts (first_by entry) strict (below_it firsts entry strict here e))

    after_last : (a : Bool) → is_last_of firsts entry ≡ a → All (AllNotAfter (with_first firsts entry)) entries
    after_last true e = rw e behind
    after_last false e = rw e (All-weaker (λ later. AllNotAfter firsts later × NotAfter later (first_by entry))
        (AllNotAfter (firsts ++ first_by entry ∷ []))
        (λ later both. All-push (NotAfter later) firsts (first_by entry) both.0 both.1) entries
        (both_all (AllNotAfter firsts) (λ later. NotAfter later (first_by entry)) entries behind
        (all_after entry entries ordered)))

-- Those of a list that pass a test stand in its order

ordered_front : (p : KeyEntry → Bool) (entries : List KeyEntry) (first : KeyEntry)
    → All (λ later. is_entry_before later first ≡ false) entries
    → All (λ later. is_entry_before later first ≡ false) (filter p entries)
ordered_front p entries first all = All-filter p (λ later. is_entry_before later first ≡ false) entries all

abbrev Pairs : List KeyEntry → Type 0
Pairs [] = Unit {0}
Pairs (e ∷ entries) = All (λ later. is_entry_before later e ≡ false) entries × Pairs entries

pairs_of : (entries : List KeyEntry) → AreOrdered entries → Pairs entries
pairs_of [] ordered = tt
pairs_of (e ∷ entries) ordered = (
  All-from_get_or (λ later. is_entry_before later e ≡ false) entries e
      (λ j within. ordered 0 (suc j) e (omega arith) (omega arith)),
  pairs_of entries (ordered_tail e entries ordered),
)

pairs_filter : (p : KeyEntry → Bool) (entries : List KeyEntry) → Pairs entries → Pairs (filter p entries)
pairs_filter p [] pairs = tt
pairs_filter p (e ∷ entries) pairs = by_one (pairs_filter p entries pairs.1) (p e) refl
  where
    by_one : Pairs (filter p entries) → (a : Bool) → p e ≡ a → Pairs (filter p (e ∷ entries))
    by_one behind true f = rw f (ordered_front p entries e pairs.0, behind)
    by_one behind false f = rw f behind

before_itself : (e : KeyEntry) → is_entry_before e e ≡ false
before_itself e = rw (
  tied_itself nat_list_cmp_total e.0,
  tied_itself nat_cmp_total e.1,
  tied_itself nat_cmp_total e.2,
  tied_itself nat_cmp_total e.3,
) refl

ordered_of : (entries : List KeyEntry) → Pairs entries → AreOrdered entries
ordered_of [] pairs i j d low high = absurd (omega arith)
ordered_of (e ∷ entries) pairs zero zero d low high = before_itself e
ordered_of (e ∷ entries) pairs zero (suc j) d low high =
    All-get_or (λ later. is_entry_before later e ≡ false) entries j d (omega arith) pairs.0
ordered_of (e ∷ entries) pairs (suc i) zero d low high = absurd (omega arith)
ordered_of (e ∷ entries) pairs (suc i) (suc j) d low high = ordered_of entries pairs.1 i j d (omega arith) (omega arith)

none_yet : (entries : List KeyEntry) → All (AllNotAfter []) entries
none_yet [] = All-nil (AllNotAfter [])
none_yet (e ∷ entries) = All-cons (AllNotAfter []) e entries (All-nil (NotAfter e)) (none_yet entries)

pub firsts_strict : (count : ℕ) (entries : List KeyEntry) (firsts : List First) → AreFirsts count entries firsts
    → AreStrict firsts
firsts_strict count entries firsts are =
    let some = filter (is_level_within count) are.sorted in
    subst AreStrict (sym are.are)
    (strict_by some [] (ordered_of some (pairs_filter (is_level_within count) are.sorted
    (pairs_of are.sorted are.ordered)))
    (λ i j d low within. absurd (omega arith)) (none_yet some))
