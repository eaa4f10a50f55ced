-- Places of a list, one by one.
use Rattle.std.specs.Prelude.{◌≡◌, ◌+◌, ◌<◌, ◌≤◌, ℕ, List, [], ◌∷◌, ◌++◌, length, take}
use Rattle.std.proofs.Common.{ap, ◌∙◌, arith, get_or}
use Rattle.std.proofs.lemmas.List.{take_all, take_more}
use Rattle.map_spec.specs.Scopes.{places_from}
use Rattle.map_lemmas.proofs.ListedLaws.{count_places, get_place}

-- one place more
pub place_more : {X : Type 0} (xs : List X) (at : ℕ) → at < length xs
    → take (at + 1) (places_from 0 xs) ≡ take at (places_from 0 xs) ++ at ∷ []
place_more xs at within =
    let below : at < length (places_from 0 xs) = omega (arith, count_places xs 0) in
    let same : get_or (places_from 0 xs) at 0 ≡ 0 + at = get_place xs 0 at 0 within in
    take_more (places_from 0 xs) at 0 below ∙ ap (λ place. take at (places_from 0 xs) ++ place ∷ [])
    (same ∙ omega arith)

pub all_places : {X : Type 0} (xs : List X) (count : ℕ) → length xs ≤ count
    → take count (places_from 0 xs) ≡ places_from 0 xs
all_places xs count enough = take_all count (places_from 0 xs) (omega (arith, count_places xs 0))
