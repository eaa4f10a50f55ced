-- Texts that are written piece by piece.
use Rattle.std.specs.Prelude.{◌≡◌, ◌+◌, ◌<◌, ℕ, List, ◌++◌, Result, Ok, Err, length, take, is_ok, OnOk, if◌then◌else◌}
use Rattle.std.specs.List.{flat_map}
use Rattle.std.proofs.Common.{refl, ◌∙◌, get_or}
use Rattle.std.proofs.lemmas.List.{take_more, flat_map_more}

-- the last piece, whose result is returned as it is
pub appended_last : {T E : Type 0} → (result : Result T E) (old new joined whole : List ℕ)
    → new ≡ (if is_ok result then joined else old) → joined ≡ whole → OnOk result (new ≡ whole)
appended_last (Ok done) old new joined whole e same = e ∙ same
appended_last (Err error) old new joined whole e same = tt

-- a piece more for each item
pub piece_more : {X : Type 0} (f : X → List ℕ) (before out new : List ℕ) (items : List X) (i : ℕ)
    → (item : X) → i < length items → item ≡ get_or items i item
    → out ≡ before ++ flat_map f (take i items) → new ≡ out ++ f item
    → new ≡ before ++ flat_map f (take (i + 1) items)
piece_more f before out new items i item within is so_far step =
    rw (step, so_far, flat_map_more f before (take i items) item, take_more items i item within, ← is) refl
