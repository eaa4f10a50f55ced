-- Elements of lists by their places.
use Rattle.std.proofs.Common.{◌≡◌, ◌<◌, ◌+◌, ℕ, zero, suc, List, [], ◌∷◌, Some, All, AllPairs, get_or, map, option_map, slice_get, sum_by, refl, sym, ap, ◌∙◌, subst}
use Rattle.std.proofs.lemmas.List.Sums.{sum_by-cons}
use Rattle.std.proofs.lemmas.Option.{get_or_from_slice_get, none-some, same_Some, slice_get-get_or, slice_get-map, slice_get_within}

pub all_at : {X : Type 0} (P : X → Type 0) (xs : List X) (n : ℕ) (x : X) → All P xs → slice_get xs n ≡ Some x → P x
all_at P xs n x all at = subst P (get_or_from_slice_get xs n x x at) (all n x (slice_get_within xs n x at))

pub all_by : {X : Type 0} (P : X → Type 0) (xs : List X) → ((n : ℕ) (x : X) → slice_get xs n ≡ Some x → P x)
    → All P xs
all_by P xs each n d within = each n (get_or xs n d) (slice_get-get_or xs n d within)

pub pair_at : {X : Type 0} (R : X → X → Type 0) (xs : List X) (i j : ℕ) (x y : X) → AllPairs R xs → i < j
    → slice_get xs i ≡ Some x → slice_get xs j ≡ Some y → R x y
pair_at R xs i j x y all before first second =
    subst (R x) (get_or_from_slice_get xs j y x second)
    (subst (λ z. R z (get_or xs j x)) (get_or_from_slice_get xs i x x first)
    (all i j x before (slice_get_within xs j y second)))

-- Lists whose elements were each changed

pub map_at : {X Y : Type 0} (f : X → Y) (xs : List X) (n : ℕ) (x : X) → slice_get xs n ≡ Some x
    → slice_get (map f xs) n ≡ Some (f x)
map_at f xs n x at = slice_get-map f xs n ∙ ap (option_map f) at

pub map_back : {X Y : Type 0} (f : X → Y) (xs : List X) (n : ℕ) (y : Y) → slice_get (map f xs) n ≡ Some y
    → (x : X) × (slice_get xs n ≡ Some x) × (f x ≡ y)
map_back f [] n y at = absurd (none-some y at)
map_back f (x ∷ xs) zero y at = (x, refl, same_Some (f x) y at)
map_back f (x ∷ xs) (suc n) y at = map_back f xs n y at

pub sum_map : {X Y : Type 0} (f : Y → ℕ) (g : X → Y) (xs : List X) → sum_by f (map g xs) ≡ sum_by (λ x. f (g x)) xs
sum_map f g [] = refl
sum_map f g (x ∷ xs) =
    sum_by-cons f (g x) (map g xs) ∙ ap (λ n. f (g x) + n) (sum_map f g xs) ∙ sym (sum_by-cons (λ z. f (g z)) x xs)
