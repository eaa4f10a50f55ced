-- What holds of each element of a list at its place.
use Rattle.std.specs.Prelude.{◌≡◌, ◌+◌, ◌<◌, ℕ, zero, suc, List, [], ◌∷◌, ◌++◌, Some, length, slice_get}
use Rattle.std.proofs.Common.{refl, sym, ◌∙◌, subst, arith}
use Rattle.std.proofs.lemmas.Option.{none-some, same_Some}

-- P holds of each element and its place; the first stands at this place
abbrev pub AllFrom : {X : Type 0} → (ℕ → X → Type 0) → ℕ → List X → Type 0
AllFrom P place [] = Unit {0}
AllFrom P place (x ∷ xs) = P place x × AllFrom P (place + 1) xs

module _ {X : Type 0} (P : ℕ → X → Type 0) where
  -- from what holds of each place
  pub from_each : (place : ℕ) (xs : List X) → ((k : ℕ) (x : X) → slice_get xs k ≡ Some x → P (place + k) x)
      → AllFrom P place xs
  from_each place [] each = tt
  from_each place (x ∷ xs) each = (
    (let here : place + 0 ≡ place = omega arith in subst (λ at. P at x) here (each 0 x refl)),
    from_each (place + 1) xs (λ k y is. let there : place + suc k ≡ place + 1 + k = omega arith
        in subst (λ at. P at y) there (each (suc k) y is)),
  )

  -- and back
  pub at_place : (place : ℕ) (xs : List X) → AllFrom P place xs → (k : ℕ) (x : X) → slice_get xs k ≡ Some x
      → P (place + k) x
  at_place place [] all k x is = absurd (none-some x is)
  at_place place (y ∷ xs) all zero x is =
      let here : place ≡ place + 0 = omega arith in
      subst (λ at. P at x) here (subst (P place) (same_Some y x is) all.0)
  at_place place (y ∷ xs) all (suc k) x is =
      let there : place + 1 + k ≡ place + suc k = omega arith in
      subst (λ at. P at x) there (at_place (place + 1) xs all.1 k x is)

  -- of two lists in a row
  pub of_both : (place : ℕ) (xs ys : List X) → AllFrom P place xs → AllFrom P (place + length xs) ys
      → AllFrom P place (xs ++ ys)
  of_both place [] ys front back =
      let here : place + 0 ≡ place = omega arith in subst (λ at. AllFrom P at ys) here back
  of_both place (x ∷ xs) ys front back =
      let there : place + length (x ∷ xs) ≡ place + 1 + length xs = omega arith in
      (front.0, of_both (place + 1) xs ys front.1 (subst (λ at. AllFrom P at ys) there back))

  -- of the first of two lists
  pub of_front : (place : ℕ) (xs ys : List X) → AllFrom P place (xs ++ ys) → AllFrom P place xs
  of_front place [] ys all = tt
  of_front place (x ∷ xs) ys all = (all.0, of_front (place + 1) xs ys all.1)

  -- of the second
  pub of_back : (place : ℕ) (xs ys : List X) → AllFrom P place (xs ++ ys) → AllFrom P (place + length xs) ys
  of_back place [] ys all =
      let here : place ≡ place + 0 = omega arith in subst (λ at. AllFrom P at ys) here all
  of_back place (x ∷ xs) ys all =
      let there : place + 1 + length xs ≡ place + length (x ∷ xs) = omega arith in
      subst (λ at. AllFrom P at ys) there (of_back (place + 1) xs ys all.1)

-- what follows from it at each place
pub weaker : {X : Type 0} (P Q : ℕ → X → Type 0) (place : ℕ) (xs : List X)
    → ((at : ℕ) (x : X) → P at x → Q at x) → AllFrom P place xs → AllFrom Q place xs
weaker P Q place [] gives all = tt
weaker P Q place (x ∷ xs) gives all = (gives place x all.0, weaker P Q (place + 1) xs gives all.1)

-- an element of `all` stands there
abbrev pub Stands : {X : Type 0} → List X → ℕ → X → Type 0
Stands all at x = slice_get all at ≡ Some x

-- each list stands in itself
pub stands_itself : {X : Type 0} (xs : List X) → AllFrom (Stands xs) 0 xs
stands_itself xs = from_each (Stands xs) 0 xs (λ k x is. let here : k ≡ 0 + k = omega arith
    in subst (λ at. slice_get xs at ≡ Some x) here is)

-- what holds of a list that stands in another, holds of the other's elements at its places
pub where_it_stands : {X : Type 0} (P : ℕ → X → Type 0) (all : List X) (place : ℕ) (xs : List X)
    → AllFrom (Stands all) place xs → AllFrom P place xs → (k : ℕ) (x : X) → k < length xs
    → slice_get all (place + k) ≡ Some x → P (place + k) x
where_it_stands P all place [] stand holds k x below is = absurd (omega arith)
where_it_stands P all place (y ∷ xs) stand holds zero x below is =
    let here : place + 0 ≡ place = omega arith in
    let same : y ≡ x = same_Some y x (sym stand.0 ∙ subst (λ at. slice_get all at ≡ Some x) here is) in
    subst (λ at. P at x) (sym here) (subst (P place) same holds.0)
where_it_stands P all place (y ∷ xs) stand holds (suc k) x below is =
    let there : place + suc k ≡ place + 1 + k = omega arith in
    subst (λ at. P at x) (sym there) (where_it_stands P all (place + 1) xs stand.1 holds.1 k x (omega arith)
    (subst (λ at. slice_get all at ≡ Some x) there is))
