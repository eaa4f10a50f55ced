-- Lists that are made of others and filtered.
use Rattle.std.proofs.Common.{◌≡◌, ◌∙◌, ◌+◌, ◌-◌, ◌≤◌, ℕ, Bool, true, false, List, [], ◌∷◌, ◌++◌, Some, refl, ap, filter, length, map, slice_get, if◌then◌else◌, arith}
use Rattle.std.proofs.lemmas.List.{length-drop}
use Rattle.facts.proofs.Places.{IsEnd, slice_get-drop}

made_if : {X Y : Type 0} (f : X → Y) (b : Bool) (x : X) (xs : List X) (ys : List Y) → map f xs ≡ ys
    → map f (if b then x ∷ xs else xs) ≡ (if b then f x ∷ ys else ys)
made_if f true x xs ys same = ap (λ (rest : List _). f x ∷ rest) same
made_if f false x xs ys same = same

-- to filter what is made is to make what is filtered by the same test
pub filter_made : {X Y : Type 0} (f : X → Y) (test : Y → Bool) (xs : List X)
    → map f (filter (λ (x : X). test (f x)) xs) ≡ filter test (map f xs)
filter_made f test [] = refl
filter_made f test (x ∷ xs) = made_if f (test (f x)) x (filter (λ (one : _). test (f one)) xs)
    (filter test (map f xs)) (filter_made f test xs)

-- to push and to make is to make and to push
pub made_push : {X Y : Type 0} (f : X → Y) (xs : List X) (x : X) → map f (xs ++ x ∷ []) ≡ map f xs ++ f x ∷ []
made_push f [] x = refl
made_push f (first ∷ xs) x = ap (λ (rest : List _). f first ∷ rest) (made_push f xs x)

-- what is at an end of a list is found there
pub still_at : {X : Type 0} (all some : List X) (end : IsEnd all some) (place : ℕ) (x : X) → end.gone ≤ place
    → slice_get all place ≡ Some x → slice_get some (place - end.gone) ≡ Some x
still_at all some end place x behind at =
    let where_is : end.gone + (place - end.gone) ≡ place = omega arith in
    ap (λ (xs : List _). slice_get xs (place - end.gone)) end.is ∙ slice_get-drop end.gone all (place - end.gone)
    ∙ ap (slice_get all) where_is ∙ at

pub end_length : {X : Type 0} (all some : List X) (end : IsEnd all some) → length some + end.gone ≡ length all
end_length all some end =
    let rest : length some ≡ length all - end.gone = ap length end.is ∙ length-drop end.gone all in
    let within : end.gone ≤ length all = end.within in
    omega arith
