-- What encloses in preorder is nested.
use Rattle.std.specs.Prelude.{◌≡◌, ◌<◌, ◌≤◌, ◌⊎◌, ℕ, zero, suc, true, false, List, [], ◌∷◌, length, nat_le, nat_lt}
use Rattle.std.proofs.Common.{refl, arith, inl, inr}
use Rattle.std.proofs.lemmas.Bool.{and_from, cases_Bool}
use Rattle.std.proofs.lemmas.Bool.Decides.{nat_tests}
use Rattle.dita_doc.proofs.Tests.{first_holds, second_holds}
use Rattle.key_scopes.specs.Above.{AreEndsFrom, AreInPreorder, encloses, end_at}
use Rattle.key_scopes.specs.Outermost.{AreNested}
use Rattle.key_scopes.proofs.AboveLaws.{above_both, above_encloses, encloses_above}

-- What encloses

pub low_of : (ends : List ℕ) (outer inner : ℕ) → encloses ends outer inner ≡ true → outer ≤ inner
low_of ends outer inner e =
    let test = first_holds (nat_le outer inner) (nat_lt inner (end_at ends outer)) e in grind (arith, nat_tests)

pub high_of : (ends : List ℕ) (outer inner : ℕ) → encloses ends outer inner ≡ true → inner < end_at ends outer
high_of ends outer inner e =
    let test = second_holds (nat_le outer inner) (nat_lt inner (end_at ends outer)) e in grind (arith, nat_tests)

pub encloses_it : (ends : List ℕ) (outer inner : ℕ) → outer ≤ inner → inner < end_at ends outer
    → encloses ends outer inner ≡ true
encloses_it ends outer inner low high =
    let first : nat_le outer inner ≡ true = grind (arith, nat_tests) in
    let second : nat_lt inner (end_at ends outer) ≡ true = grind (arith, nat_tests) in
    and_from (nat_le outer inner) (nat_lt inner (end_at ends outer)) first second

-- behind the last end there is none
end_past : (n : ℕ) (ends : List ℕ) → length ends ≤ n → end_at ends n ≡ 0
end_past n [] out = refl
end_past zero (x ∷ ends) out = absurd (omega arith)
end_past (suc n) (x ∷ ends) out = end_past n ends (omega arith)

-- what encloses is one of the numbers
pub top_within : (parent : ℕ → ℕ) (count : ℕ) (ends : List ℕ) → AreEndsFrom parent count 0 ends → (top at : ℕ)
    → encloses ends top at ≡ true → top < count
top_within parent count ends ends_are top at e = by_test (cases_Bool (nat_lt top count))
  where
    by_test : (nat_lt top count ≡ true) ⊎ (nat_lt top count ≡ false) → top < count
    by_test (inl low) = grind (arith, nat_tests)
    by_test (inr far) =
        let more : count ≤ top = grind (arith, nat_tests) in
        let none = end_past top ends (omega (arith, ends_are.long, more)) in
        let high = high_of ends top at e in
        absurd (omega (arith, none, high))

-- what encloses in preorder is nested
pub nested_by : (parent : ℕ → ℕ) (count : ℕ) (ends : List ℕ) → AreInPreorder parent count
    → AreEndsFrom parent count 0 ends → AreNested ends
nested_by parent count ends ordered ends_are outer middle inner first second =
    let inner_in = bound middle inner second in
    let middle_in = bound outer middle first in
    encloses_above parent count ordered ends ends_are outer inner inner_in
    (above_both parent outer middle inner
    (above_encloses parent count ordered ends ends_are outer middle middle_in (top_in outer middle first) first)
    (above_encloses parent count ordered ends ends_are middle inner inner_in middle_in second))
  where
    top_in : (top at : ℕ) → encloses ends top at ≡ true → top < count
    top_in = top_within parent count ends ends_are

    bound : (top at : ℕ) → encloses ends top at ≡ true → at < count
    bound top at e =
        let high = high_of ends top at e in
        let last = ends_are.last top (top_in top at e) in
        omega (arith, high, last.is, last.within)
