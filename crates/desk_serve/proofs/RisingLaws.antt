-- Numbers that rise: two lists of them that weigh the same are one list.
use Rattle.std.proofs.Common.{◌≡◌, ◌<◌, ◌≤◌, ◌+◌, ℕ, zero, suc, List, [], ◌∷◌, Some, refl, sym, ap, arith, sum_by}
use Rattle.std.specs.List.{slice_get}
use Rattle.std.proofs.lemmas.List.Sums.{sum_by-cons}
use Rattle.std.proofs.lemmas.Option.{none-some, same_Some}
use mathlib.Core.Logic.{dite}
use native.Mathlib.Decide.{ℕ_discrete}
use Rattle.desk_lock.specs.Lists.{IsReordered}
use Rattle.desk_lock.proofs.Weights.{heavy_stands, tick, tick_is, tick_other}

-- each is behind the one before, and none is below this one
abbrev pub Rises : ℕ → List ℕ → Type 0
Rises from [] = Unit {0}
Rises from (n ∷ more) = (from ≤ n) × Rises (n + 1) more

pub rises_lower : (from low : ℕ) (ns : List ℕ) → low ≤ from → Rises from ns → Rises low ns
rises_lower from low [] below rises = tt
rises_lower from low (n ∷ ns) below rises = (omega (arith, below, rises.0), rises.1)

rises_least : (from : ℕ) (ns : List ℕ) (k n : ℕ) → Rises from ns → slice_get ns k ≡ Some n → from ≤ n
rises_least from [] k n rises at = absurd (none-some n at)
rises_least from (m ∷ ns) zero n rises at = let same = same_Some m n at in omega (arith, same, rises.0)
rises_least from (m ∷ ns) (suc k) n rises at =
    let r = rises_least (m + 1) ns k n rises.1 at in omega (arith, r, rises.0)

-- the first of a list is not below the first of another that weighs the same
not_below : (n m : ℕ) (ns ms : List ℕ) → Rises m (m ∷ ms) → IsReordered (n ∷ ns) (m ∷ ms) → m ≤ n
not_below n m ns ms rises same =
    let c = sum_by-cons (tick n) n ns in let t = tick_is n n refl in let w = same (tick n) in
    let found = heavy_stands (tick n) (m ∷ ms) (omega (arith, c, t, w)) in
    let is : found.1 ≡ n = dite (ℕ_discrete found.1 n) (λ e. e)
    (λ differ. let none = tick_other n found.1 differ in absurd (omega (arith, none, found.3))) in
    let least = rises_least m (m ∷ ms) found.0 found.1 rises found.2 in omega (arith, is, least)

pub same_rising : (from other : ℕ) (ns ms : List ℕ) → Rises from ns → Rises other ms → IsReordered ns ms → ns ≡ ms
same_rising from other [] [] rises also same = refl
same_rising from other [] (m ∷ ms) rises also same =
    let w = same (λ k. 1) in let c = sum_by-cons (λ (k : ℕ). 1) m ms in
    let none : sum_by (λ (k : ℕ). 1) [] ≡ 0 = refl in absurd (omega (arith, w, c, none))
same_rising from other (n ∷ ns) [] rises also same =
    let w = same (λ k. 1) in let c = sum_by-cons (λ (k : ℕ). 1) n ns in
    let none : sum_by (λ (k : ℕ). 1) [] ≡ 0 = refl in absurd (omega (arith, w, c, none))
same_rising from other (n ∷ ns) (m ∷ ms) rises also same =
    let below = not_below n m ns ms (omega arith, also.1) same in
    let above = not_below m n ms ns (omega arith, rises.1) (λ weight. sym (same weight)) in
    let first : n ≡ m = omega (arith, below, above) in
    let rest = same_rising (n + 1) (m + 1) ns ms rises.1 also.1
    (λ weight. let w = same weight in let c = sum_by-cons weight n ns in let d = sum_by-cons weight m ms in
    let e : weight n ≡ weight m = ap weight first in omega (arith, w, c, d, e)) in
    λ i. first i ∷ rest i
