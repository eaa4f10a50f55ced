-- The places of a list, listed.
use Rattle.std.specs.Prelude.{List, Some, length, slice_get, suc, take, zero, ℕ, ◌++◌, ◌+◌, ◌<◌, ◌∷◌, ◌≡◌, []}
use Rattle.std.proofs.Common.{ap, arith, get_or, refl, ◌∙◌}
use Rattle.std.proofs.lemmas.List.{take_more}
use Rattle.dita_doc.specs.declared.plan.PlanNode.{PlanNode}
use Rattle.map_spec.specs.Scopes.{places, places_from}

pub get_place : {X : Type 0} (xs : List X) (from at d : ℕ) → at < length xs
    → get_or (places_from from xs) at d ≡ from + at
get_place [] from at d within = absurd (omega arith)
get_place (x ∷ xs) from zero d within = omega arith
get_place (x ∷ xs) from (suc at) d within =
    let rest : get_or (places_from (from + 1) xs) at d ≡ from + 1 + at = get_place xs (from + 1) at d (omega arith) in
    rest ∙ omega arith

pub count_places : {X : Type 0} (xs : List X) (from : ℕ) → length (places_from from xs) ≡ length xs
count_places [] from = refl
count_places (x ∷ xs) from = ap suc (count_places xs (from + 1))

pub place_there : {X : Type 0} (xs : List X) (from at : ℕ) → at < length xs
    → slice_get (places_from from xs) at ≡ Some (from + at)
place_there [] from at within = absurd (omega arith)
place_there (x ∷ xs) from zero within = ap Some (omega arith)
place_there (x ∷ xs) from (suc at) within =
    place_there xs (from + 1) at (omega arith) ∙ ap Some (omega arith)

pub places_more : (nodes : List PlanNode) (at : ℕ) → at < length nodes
    → take (at + 1) (places nodes) ≡ take at (places nodes) ++ at ∷ []
places_more nodes at within =
    let below : at < length (places nodes) = omega (arith, count_places nodes 0) in
    let same : get_or (places nodes) at 0 ≡ 0 + at = get_place nodes 0 at 0 within in
    take_more (places nodes) at 0 below ∙ ap (λ place. take at (places nodes) ++ place ∷ []) (same ∙ omega arith)
