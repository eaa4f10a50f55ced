-- Lists of which each element is taken once, by a test of likeness: one more element behind.
use Rattle.std.specs.Prelude.{◌≡◌, ◌||◌, Bool, true, false, not, List, [], ◌∷◌, ◌++◌, filter, if◌then◌else◌}
use Rattle.std.specs.List.{list_any}
use Rattle.std.proofs.Common.{refl, sym, ap, ◌∙◌}
use Rattle.std.proofs.lemmas.Bool.{false≢true}

module _ {X : Type 0} (alike : X → X → Bool)
    (through : (a b c : X) → alike a b ≡ true → alike b c ≡ true → alike a c ≡ true) where
  abbrev pub unlike : X → X → Bool
  unlike x y = not (alike x y)

  abbrev pub is_there : List X → X → Bool
  is_there xs y = list_any (λ x. alike x y) xs

  abbrev pub with_one : List X → X → List X
  with_one xs y = if is_there xs y then xs else xs ++ y ∷ []

  abbrev pub firsts : List X → List X
  firsts [] = []
  firsts (x ∷ xs) = x ∷ filter (unlike x) (firsts xs)

  -- what is unlike the first is there as before
  there_filtered : (x y : X) (xs : List X) → alike x y ≡ false → is_there (filter (unlike x) xs) y ≡ is_there xs y
  there_filtered x y [] differs = refl
  there_filtered x y (z ∷ xs) differs = by_two (there_filtered x y xs differs) (alike x z) (alike z y) refl refl
    where
      by_two : is_there (filter (unlike x) xs) y ≡ is_there xs y → (a b : Bool) → alike x z ≡ a → alike z y ≡ b
          → is_there (filter (unlike x) (z ∷ xs)) y ≡ is_there (z ∷ xs) y
      by_two behind true true e f = absurd (false≢true (sym differs ∙ through x z y e f))
      by_two behind true false e f = simp (e, f) behind
      by_two behind false b e f = simp e (ap (λ c. alike z y || c) behind)

  filter_push : (p : X → Bool) (xs : List X) (y : X)
      → filter p (xs ++ y ∷ []) ≡ (if p y then filter p xs ++ y ∷ [] else filter p xs)
  filter_push p [] y = refl
  filter_push p (x ∷ xs) y = by_two (filter_push p xs y) (p x) (p y) refl refl
    where
      by_two : filter p (xs ++ y ∷ []) ≡ (if p y then filter p xs ++ y ∷ [] else filter p xs) → (a b : Bool)
          → p x ≡ a → p y ≡ b
          → filter p (x ∷ xs ++ y ∷ []) ≡ (if p y then filter p (x ∷ xs) ++ y ∷ [] else filter p (x ∷ xs))
      by_two behind true true e f = simp (e, f) (ap (λ more. x ∷ more)
          (behind ∙ ap (λ b. if b then filter p xs ++ y ∷ [] else filter p xs) f))
      by_two behind true false e f = simp (e, f) (ap (λ more. x ∷ more)
          (behind ∙ ap (λ b. if b then filter p xs ++ y ∷ [] else filter p xs) f))
      by_two behind false true e f = simp (e, f) (behind ∙ ap (λ b. if b then filter p xs ++ y ∷ [] else filter p xs) f)
      by_two behind false false e f = simp (e, f) (behind ∙ ap
          (λ b. if b then filter p xs ++ y ∷ [] else filter p xs) f)

  -- one more behind a first one
  first_more : (x y : X) (xs more : List X) → more ≡ with_one xs y
      → x ∷ filter (unlike x) more ≡ with_one (x ∷ filter (unlike x) xs) y
  first_more x y xs more is = by_two (is_there xs y) (alike x y) refl refl
    where
      by_two : (a b : Bool) → is_there xs y ≡ a → alike x y ≡ b
          → x ∷ filter (unlike x) more ≡ with_one (x ∷ filter (unlike x) xs) y
      by_two true true e f =
          ap (λ l. x ∷ filter (unlike x) l) (is ∙ ap (λ b. if b then xs else xs ++ y ∷ []) e)
          ∙ sym (ap (λ b. if b || is_there (filter (unlike x) xs) y then x ∷ filter (unlike x) xs
          else x ∷ filter (unlike x) xs ++ y ∷ []) f)
      by_two true false e f =
          ap (λ l. x ∷ filter (unlike x) l) (is ∙ ap (λ b. if b then xs else xs ++ y ∷ []) e)
          ∙ sym (ap (λ b. if b || is_there (filter (unlike x) xs) y then x ∷ filter (unlike x) xs
          else x ∷ filter (unlike x) xs ++ y ∷ []) f
          ∙ ap (λ b. if b then x ∷ filter (unlike x) xs else x ∷ filter (unlike x) xs ++ y ∷ [])
          (there_filtered x y xs f ∙ e))
      by_two false true e f =
          ap (λ l. x ∷ filter (unlike x) l) (is ∙ ap (λ b. if b then xs else xs ++ y ∷ []) e)
          ∙ ap (λ l. x ∷ l) (filter_push (unlike x) xs y
          ∙ ap (λ b. if not b then filter (unlike x) xs ++ y ∷ [] else filter (unlike x) xs) f)
          ∙ sym (ap (λ b. if b || is_there (filter (unlike x) xs) y then x ∷ filter (unlike x) xs
          else x ∷ filter (unlike x) xs ++ y ∷ []) f)
      by_two false false e f =
          ap (λ l. x ∷ filter (unlike x) l) (is ∙ ap (λ b. if b then xs else xs ++ y ∷ []) e)
          ∙ ap (λ l. x ∷ l) (filter_push (unlike x) xs y
          ∙ ap (λ b. if not b then filter (unlike x) xs ++ y ∷ [] else filter (unlike x) xs) f)
          ∙ sym (ap (λ b. if b || is_there (filter (unlike x) xs) y then x ∷ filter (unlike x) xs
          else x ∷ filter (unlike x) xs ++ y ∷ []) f
          ∙ ap (λ b. if b then x ∷ filter (unlike x) xs else x ∷ filter (unlike x) xs ++ y ∷ [])
          (there_filtered x y xs f ∙ e))

  pub firsts_push : (xs : List X) (y : X) → firsts (xs ++ y ∷ []) ≡ with_one (firsts xs) y
  firsts_push [] y = refl
  firsts_push (x ∷ xs) y = first_more x y (firsts xs) (firsts (xs ++ y ∷ [])) (firsts_push xs y)
