-- Entries in their order, and the first definitions among them, one more.
use Rattle.std.specs.Prelude.{◌≡◌, ◌+◌, ◌<◌, ◌≤◌, ◌-◌, ℕ, zero, suc, Bool, true, false, List, [], ◌∷◌, Some, slice_get, drop, filter, length, nat_lt}
use Rattle.std.specs.Borrow.{Bor}
use Rattle.std.specs.Cmp.{IsTotalOrder}
use Rattle.std.specs.List.Sorted.{IsPermutation, IsSorted}
use Rattle.std.specs.Ordering.{is_lt}
use Rattle.std.proofs.Common.{Ordering, refl, sym, ap, ◌∙◌, arith, get_or}
use Rattle.std.proofs.lemmas.Cmp.{nat_cmp_total, nat_list_cmp_total, on_total, then_total}
use Rattle.std.proofs.lemmas.List.{drop_all, drop_more, get_or-map, length-map}
use Rattle.std.proofs.lemmas.List.Sorted.{IsPermutation-map, ranks_by, sorted_far}
use Rattle.key_scopes.specs.declared.definitions.Definition.{Definition}
use Rattle.key_scopes.specs.Defined.{AreFirsts, AreOrdered, entry_order, firsts_by, is_last_of, is_level_within, with_entry}
use Rattle.key_scopes.specs.Numbered.{KeyEntry, entries, entry_of}
use Rattle.key_scopes.specs.Table.{First, is_first, first_of, firsts_of}

abbrev pub WrittenKey : Type 0
WrittenKey = Bor (List ℕ) × ℕ × ℕ × ℕ

entry_total : IsTotalOrder entry_order
entry_total =
    then_total (then_total (then_total
    (on_total (λ (e : KeyEntry). e.0) nat_list_cmp_total) (on_total (λ (e : KeyEntry). e.1) nat_cmp_total))
    (on_total (λ (e : KeyEntry). e.2) nat_cmp_total)) (on_total (λ (e : KeyEntry). e.3) nat_cmp_total)

abbrev pub written_order : WrittenKey → WrittenKey → Ordering
written_order a b = entry_order (entry_of a) (entry_of b)

-- sorted, each stands before none of those before it
pub ordered_by : (written : List WrittenKey) → IsSorted written_order written → AreOrdered (entries written)
ordered_by written sorted = λ i j d low high.
    let some : WrittenKey = (record { ref_ptr = (0, 0); now = d.0 }, d.1, d.2, d.3) in
    let long : j < length written = omega (arith, high, length-map written entry_of) in
    ap (λ e. is_lt (entry_order e (get_or (entries written) i d))) (get_or-map entry_of written j some d long)
    ∙ ap (λ e. is_lt (entry_order (entry_of (get_or written j some)) e))
    (get_or-map entry_of written i some d (omega arith))
    ∙ sorted_far (λ a b. is_lt (written_order a b)) (ranks_by entry_total entry_of) written sorted i j some low long

-- one more
pub firsts_step : (count : ℕ) (written : List WrittenKey) (at : ℕ) (d : WrittenKey) (old new whole : List First)
    → at < length written
    → firsts_by old (filter (is_level_within count) (entries (drop at written))) ≡ whole
    → new ≡ with_entry count old (entry_of (get_or written at d))
    → firsts_by new (filter (is_level_within count) (entries (drop (at + 1) written))) ≡ whole
firsts_step count written at d old new whole within before more =
    ap (λ some. firsts_by some (filter (is_level_within count) (entries (drop (at + 1) written)))) more
    ∙ by_one (get_or written at d) (nat_lt (get_or written at d).2 count) refl
    ∙ sym (ap (λ all. firsts_by old (filter (is_level_within count) (entries all))) (drop_more written at d within))
    ∙ before
  where
    by_one : (item : WrittenKey) (a : Bool) → nat_lt item.2 count ≡ a
        → firsts_by (with_entry count old (entry_of item))
        (filter (is_level_within count) (entries (drop (at + 1) written)))
        ≡ firsts_by old (filter (is_level_within count) (entry_of item ∷ entries (drop (at + 1) written)))
    by_one item true e = rw e refl
    by_one item false e = rw e refl

-- behind all of them
pub firsts_end : (count : ℕ) (written sorted : List WrittenKey) (at : ℕ) (made : List First) → length sorted ≤ at
    → firsts_by made (filter (is_level_within count) (entries (drop at sorted)))
    ≡ firsts_by [] (filter (is_level_within count) (entries sorted))
    → IsPermutation written sorted → IsSorted written_order sorted → AreFirsts count (entries written) made
firsts_end count written sorted at made end before permuted order = record {
  sorted = entries sorted;
  permuted = IsPermutation-map entry_of written sorted permuted;
  ordered = ordered_by sorted order;
  are = sym (ap (λ all. firsts_by made (filter (is_level_within count) (entries all))) (drop_all at sorted end))
      ∙ before;
}

-- whether the last definition is of the entry's key and scope
pub last_is : (made : List Definition) (last : Definition) (at : ℕ) (entry : KeyEntry) → at + 1 ≡ length made
    → slice_get made at ≡ Some last → is_last_of (firsts_of made) entry ≡ is_first entry.1 entry.0 (first_of last)
last_is [] last at entry long is = absurd (cc)
last_is (first ∷ []) last zero entry long is =
    let same : first ≡ last = cc in ap (λ (d : Definition). is_first entry.1 entry.0 (first_of d)) same
last_is (first ∷ []) last (suc at) entry long is = absurd (cc)
last_is (first ∷ next ∷ made) last zero entry long is = absurd (omega (arith, long))
last_is (first ∷ next ∷ made) last (suc at) entry long is = last_is (next ∷ made) last at entry (omega (arith, long)) is

pub last_at : (made : List Definition) (last : Definition) (entry : KeyEntry)
    → slice_get made (length made - 1) ≡ Some last
    → is_last_of (firsts_of made) entry ≡ is_first entry.1 entry.0 (first_of last)
last_at [] last entry is = absurd (cc)
last_at (first ∷ made) last entry is =
    let long : length (first ∷ made) - 1 ≡ length made = omega arith in
    last_is (first ∷ made) last (length made) entry (omega arith) (ap (slice_get (first ∷ made)) (sym long) ∙ is)
