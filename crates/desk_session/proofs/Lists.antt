-- Lists: what stands where another begins, and what is put down behind others.
use Rattle.std.proofs.Common.{◌≡◌, ◌++◌, ◌+◌, ◌<◌, ◌∙◌, ℕ, List, [], ◌∷◌, Some, ap, append-nil, arith, drop, flat_map, get_or, length, length-append, map, subst, sym, take}
use Rattle.std.specs.List.{slice_get}
use Rattle.std.proofs.lemmas.List.{map-append, take-append-drop, take_more}
use Rattle.std.proofs.lemmas.List.Concat.{flat_map-append}
use Rattle.desk_lock.specs.Lists.{StartsWith}
use Rattle.desk_work.proofs.Lists.{at_left}

module _ {X : Type 0} where
  pub at_start : (xs first : List X) (k : ℕ) (x : X) → StartsWith xs first → slice_get first k ≡ Some x
      → slice_get xs k ≡ Some x
  at_start xs first k x starts e =
      subst (λ list. slice_get list k ≡ Some x) (sym starts.1) (at_left first starts.0 k x e)

  -- a list is told from a longer one by what stands behind it
  pub none_behind : (xs more : List X) → xs ≡ xs ++ more → more ≡ []
  none_behind [] more same = sym same
  none_behind (x ∷ xs) more same = none_behind xs more (ap (drop 1) same)

  pub length_push : (xs : List X) (x : X) → length (xs ++ x ∷ []) ≡ length xs + 1
  length_push xs x = omega (arith, length-append xs (x ∷ []))

  -- the first ones, and one more
  pub take_one : (xs : List X) (i : ℕ) (x : X) → i < length xs → x ≡ get_or xs i x
      → take (i + 1) xs ≡ take i xs ++ x ∷ []
  take_one xs i x within is = take_more xs i x within ∙ ap (λ one. take i xs ++ one ∷ []) (sym is)

  pub behind_none : (xs more : List X) → more ≡ [] → xs ++ more ≡ xs
  behind_none xs more none = ap (λ list. xs ++ list) none ∙ append-nil xs

module _ {X Y : Type 0} where
  pub map_push : (f : X → Y) (xs : List X) (x : X) → map f (xs ++ x ∷ []) ≡ map f xs ++ f x ∷ []
  map_push f xs x = map-append f xs (x ∷ [])

  pub map_more : (f : X → Y) (xs : List X) (i : ℕ) (x : X) → i < length xs → x ≡ get_or xs i x
      → map f (take (i + 1) xs) ≡ map f (take i xs) ++ f x ∷ []
  map_more f xs i x within is = ap (map f) (take_one xs i x within is) ∙ map_push f (take i xs) x

  -- and all that stand behind
  pub map_around : (f : X → Y) (xs : List X) (i : ℕ) (x : X) → i < length xs → x ≡ get_or xs i x
      → map f xs ≡ (map f (take i xs) ++ f x ∷ []) ++ map f (drop (i + 1) xs)
  map_around f xs i x within is = ap (map f) (sym (take-append-drop (i + 1) xs))
      ∙ map-append f (take (i + 1) xs) (drop (i + 1) xs)
      ∙ ap (λ list. list ++ map f (drop (i + 1) xs)) (map_more f xs i x within is)

  pub flat_push : (f : X → List Y) (xs : List X) (x : X) → flat_map f (xs ++ x ∷ []) ≡ flat_map f xs ++ f x
  flat_push f xs x = flat_map-append f xs (x ∷ []) ∙ ap (λ list. flat_map f xs ++ list) (append-nil (f x))
