-- What the examples share: facts on short lists and on lines.
use Prim.Native.String.{String}
use Rattle.std.specs.Prelude.{◌≡◌, ◌+◌, ℕ, zero, suc, true, List, [], ◌∷◌, Some, All, AllPairs, ⊤, codes, map, slice_get}
use Rattle.std.specs.List.{AllByRecursion, flat_map}
use Rattle.std.specs.Str.{is_utf8}
use Rattle.std.proofs.Common.{subst, arith}
use Rattle.std.proofs.lemmas.List.Elements.{All-from_recursion}
use Rattle.std.proofs.lemmas.List.Kept.{AllPairs-cons}
use Rattle.std.proofs.lemmas.Option.{none-some}
use Rattle.dita_doc.specs.Bytes.{line_feed}
use Rattle.dita_doc.specs.Cut.{Lacks}
use Rattle.dita_doc.specs.Lines.{IsLineText, line}
use Rattle.script_text.specs.Script.{Step}
use Rattle.run_spec.specs.HistoryTold.{step_of}

abbrev pub lines : List String → List ℕ
lines strings = flat_map line (map codes strings)

pub on_line : (text : List ℕ) → is_utf8 text ≡ true → Lacks line_feed text → IsLineText text
on_line text utf8 one = record { utf8 = utf8; one = one }

pub all_of : {X : Type 0} (P : X → Type 0) (xs : List X) → AllByRecursion P xs → All P xs
all_of P xs each = All-from_recursion P xs each

-- each element with all that follow it
abbrev pub PairsByRecursion : {X : Type 0} → (X → X → Type 0) → List X → Type 0
PairsByRecursion R [] = ⊤
PairsByRecursion R (x ∷ xs) = AllByRecursion (R x) xs × PairsByRecursion R xs

pub pairs_of : {X : Type 0} (R : X → X → Type 0) (xs : List X) → PairsByRecursion R xs → AllPairs R xs
pairs_of R [] each = λ i j d before within. absurd (omega arith)
pairs_of R (x ∷ xs) each =
    AllPairs-cons R x xs (All-from_recursion (R x) xs each.0) (pairs_of R xs each.1)

-- what holds of the number of each request, from this number on
abbrev pub EachNumber : (ℕ → Type 0) → ℕ → List Step → Type 0
EachNumber P number [] = ⊤
EachNumber P number (step ∷ steps) = P number × EachNumber P (number + 1) steps

each_place : (P : ℕ → Type 0) (number : ℕ) (steps : List Step) → EachNumber P number steps → (place : ℕ) (step : Step)
    → slice_get steps place ≡ Some step → P (number + place)
each_place P number [] each place step is = absurd (none-some step is)
each_place P number (first ∷ steps) each zero step is = subst P (omega arith) each.0
each_place P number (first ∷ steps) each (suc place) step is =
    subst P (omega arith) (each_place P (number + 1) steps each.1 place step is)

pub each_number : (P : ℕ → Type 0) (steps : List Step) → EachNumber P 1 steps → (number : ℕ) (step : Step)
    → step_of steps number ≡ Some step → P number
each_number P steps each zero step is = absurd (none-some step is)
each_number P steps each (suc place) step is = subst P (omega arith) (each_place P 1 steps each place step is)
