-- A free name is not taken: of one name more than are taken one is free.
use Rattle.std.specs.Prelude.{◌≡◌, ◌≢◌, ◌+◌, ◌<◌, ◌≤◌, ◌^◌, ◌++◌, ℕ, zero, suc, Bool, true, false, not, List, [], ◌∷◌, filter, length, codes, bytes_eq}
use Rattle.std.specs.Fmt.{decimal}
use Rattle.std.proofs.Common.{refl, sym, ◌∙◌, inl, inr, arith}
use Rattle.std.proofs.lemmas.Bool.{cond_both, false_from_ne_true, or_cases, or_left, or_right, both_ways}
use Rattle.std.proofs.lemmas.Fmt.{decimal_injective}
use Rattle.std.proofs.lemmas.List.{append_cancel_left, append_cancel_right, nil_from_length}
use Rattle.std.proofs.lemmas.Slice.Eq.{bytes_eq-Decides}
use Rattle.dita_doc.proofs.Lists.{is_in}
use Rattle.map_spec.specs.Pages.{free_from, free_name, html, with_number}

-- one base with different numbers makes different names
number_differs : (base : List ℕ) (m n : ℕ) → m < 2 ^ 64 → n < 2 ^ 64 → with_number base m ≡ with_number base n → m ≡ n
number_differs base m n small few same =
    let front = base ++ codes "_" in
    let parts = append_cancel_right (front ++ decimal m) (front ++ decimal n) (codes ".html") same in
    decimal_injective m n small few (append_cancel_left front (decimal m) (decimal n) parts)

-- the names other than one
abbrev without : List ℕ → List (List ℕ) → List (List ℕ)
without name names = filter (λ other. not (bytes_eq name other)) names

-- are no more than before
no_more_without : (name : List ℕ) (names : List (List ℕ)) → length (without name names) ≤ length names
no_more_without name [] = omega arith
no_more_without name (other ∷ names) =
    let more = no_more_without name names in
    cond_both (not (bytes_eq name other)) (other ∷ without name names) (without name names)
    (λ left. length left ≤ length (other ∷ names)) (λ e. omega arith) (λ e. omega arith)

-- and fewer if it is among them
fewer_by : (name other : List ℕ) (names : List (List ℕ)) (test : Bool) → bytes_eq name other ≡ test
    → is_in (other ∷ names) name ≡ true → (is_in names name ≡ true → length (without name names) < length names)
    → length (without name (other ∷ names)) < length (other ∷ names)
fewer_by name other names true e among more = rw e (omega (arith, no_more_without name names))
fewer_by name other names false e among more =
    let rest : is_in names name ≡ true = rw e at among in rw e (omega (arith, more rest))

-- the same for whole lists
fewer_without : (name : List ℕ) (names : List (List ℕ)) → is_in names name ≡ true
    → length (without name names) < length names
fewer_without name [] among = absurd (cc)
fewer_without name (other ∷ names) among =
    fewer_by name other names (bytes_eq name other) refl among (fewer_without name names)

-- another name stays among them
stays_by : (name kept other : List ℕ) (names : List (List ℕ)) (test : Bool) → bytes_eq name other ≡ test → name ≢ kept
    → is_in (other ∷ names) kept ≡ true
    → (is_in names kept ≡ true → is_in (without name names) kept ≡ true)
    → is_in (without name (other ∷ names)) kept ≡ true
stays_by name kept other names true e differs among more =
    let same = (bytes_eq-Decides name other).0 e in
    rw e (elim (or_cases (bytes_eq kept other) (is_in names kept) among) [
      | inl here ↦ absurd (differs (same ∙ sym ((bytes_eq-Decides kept other).0 here)))
      | inr behind ↦ more behind
    ])
stays_by name kept other names false e differs among more =
    rw e (elim (or_cases (bytes_eq kept other) (is_in names kept) among) [
      | inl here ↦ or_left _ _ here
      | inr behind ↦ or_right _ _ (more behind)
    ])

-- the same for whole lists
stays_without : (name kept : List ℕ) (names : List (List ℕ)) → name ≢ kept → is_in names kept ≡ true
    → is_in (without name names) kept ≡ true
stays_without name kept [] differs among = absurd (cc)
stays_without name kept (other ∷ names) differs among =
    stays_by name kept other names (bytes_eq name other) refl differs among (stays_without name kept names differs)

-- the names from a number on that are taken are among the left ones, no more than so many tries
free_by : (others number : ℕ) (taken left : List (List ℕ)) (base : List ℕ) → number + others < 2 ^ 64
    → length left ≤ others
    → ((n : ℕ) → number ≤ n → n < 2 ^ 64 → is_in taken (with_number base n) ≡ true
    → is_in left (with_number base n) ≡ true)
    → is_in taken (free_from others number taken base) ≡ false
free_by zero number taken left base small few among =
    let name = with_number base number in
    let none : left ≡ [] = nil_from_length left (omega arith) in
    false_from_ne_true (is_in taken name)
    (λ e. absurd (both_ways (is_in left name) (rw none refl) (among number (omega arith) (omega arith) e)))
free_by (suc others) number taken left base small few among =
    let name = with_number base number in
    cond_both (is_in taken name) (free_from others (number + 1) taken base) name
    (λ found. is_in taken found ≡ false)
    (λ e. let fewer = fewer_without name left (among number (omega arith) (omega arith) e) in
    free_by others (number + 1) taken (without name left) base (omega arith) (omega arith)
    (λ n from low is. stays_without name (with_number base n) left
    (λ same. absurd (omega (arith, number_differs base number n (omega arith) low same)))
    (among n (omega arith) low is)))
    (λ e. e)

-- the name with a number is not taken
pub free_from_free : (number : ℕ) (taken : List (List ℕ)) (base : List ℕ) → number + length taken < 2 ^ 64
    → is_in taken (free_from (length taken) number taken base) ≡ false
free_from_free number taken base small =
    free_by (length taken) number taken taken base small (omega arith) (λ n from few among. among)

-- nor is a free name
pub free_name_free : (taken : List (List ℕ)) (base : List ℕ) → 2 + length taken < 2 ^ 64
    → is_in taken (free_name taken base) ≡ false
free_name_free taken base small =
    cond_both (is_in taken (html base)) (free_from (length taken) 2 taken base) (html base)
    (λ name. is_in taken name ≡ false) (λ e. free_from_free 2 taken base small) (λ e. e)

-- more tries find the same name if they do from the next number on
free_step : (few more number : ℕ) (taken : List (List ℕ)) (base : List ℕ) (test : Bool)
    → is_in taken (with_number base number) ≡ test
    → (is_in taken (free_from few (number + 1) taken base) ≡ false
    → free_from more (number + 1) taken base ≡ free_from few (number + 1) taken base)
    → is_in taken (free_from (suc few) number taken base) ≡ false
    → free_from (suc more) number taken base ≡ free_from (suc few) number taken base
free_step few more number taken base true e same free = rw e (same (rw e at free))
free_step few more number taken base false e same free = rw e refl

-- a search that found a free name finds the same with more tries
free_same : (few more number : ℕ) (taken : List (List ℕ)) (base : List ℕ) → few ≤ more
    → is_in taken (free_from few number taken base) ≡ false
    → free_from more number taken base ≡ free_from few number taken base
free_same zero zero number taken base least free = refl
free_same zero (suc more) number taken base least free =
    rw free refl
free_same (suc few) zero number taken base least free = absurd (omega arith)
free_same (suc few) (suc more) number taken base least free =
    free_step few more number taken base (is_in taken (with_number base number)) refl
    (free_same few more (number + 1) taken base (omega arith)) free

-- the search has as many tries as it takes
pub free_is_whole : (taken : List (List ℕ)) (base : List ℕ) (more : ℕ) → 2 + length taken < 2 ^ 64
    → free_from (length taken + more) 2 taken base ≡ free_from (length taken) 2 taken base
free_is_whole taken base more small =
    free_same (length taken) (length taken + more) 2 taken base (omega arith)
    (free_from_free 2 taken base (omega arith))
