-- Elements of lists: of a list with one more before it, of a mapped list, and of lists put together.
use Rattle.std.proofs.Common.{◌≡◌, ◌⊎◌, zero, suc, List, [], ◌∷◌, ◌++◌, Contains, flat_map, inl, inr, map, refl, subst, sym, ⊎_elim, ap, arith}
use Rattle.std.proofs.lemmas.List.Elements.{Contains-append_cases, Contains-append_left, Contains-append_right}

pub first_of : {X : Type 0} (x : X) (xs : List X) → Contains (x ∷ xs) x
first_of x xs = (0, omega arith, refl)

pub behind_first : {X : Type 0} (x : X) (xs : List X) (y : X) → Contains xs y → Contains (x ∷ xs) y
behind_first x xs y is = Contains-append_right (x ∷ []) xs y is

pub first_or_behind : {X : Type 0} (x : X) (xs : List X) (y : X) → Contains (x ∷ xs) y → (x ≡ y) ⊎ Contains xs y
first_or_behind x xs y (zero, within, is) = inl is
first_or_behind x xs y (suc k, within, is) = inr (k, omega arith, is)

pub none_of : {X : Type 0} (x : X) → Contains [] x → ⊥
none_of x (k, within, is) = absurd (omega arith)

module _ {X Y : Type 0} (f : X → Y) where
  pub mapped : (xs : List X) (x : X) → Contains xs x → Contains (map f xs) (f x)
  mapped [] x is = absurd (none_of x is)
  mapped (first ∷ xs) x is =
      ⊎_elim (λ same. subst (λ (one : X). Contains (map f (first ∷ xs)) (f one)) same (first_of (f first) (map f xs)))
      (λ behind. behind_first (f first) (map f xs) (f x) (mapped xs x behind)) (first_or_behind first xs x is)

  -- what is mapped to an element
  pub record IsMappedTo (xs : List X) (y : Y) : Type 0 where
    pub one : X
    pub among : Contains xs one
    pub is : f one ≡ y

  pub mapped_from : (xs : List X) (y : Y) → Contains (map f xs) y → IsMappedTo xs y
  mapped_from [] y is = absurd (none_of y is)
  mapped_from (first ∷ xs) y is =
      ⊎_elim (λ same. record { one = first; among = first_of first xs; is = same })
      (λ behind. let found = mapped_from xs y behind in
      record { one = found.one; among = behind_first first xs found.one found.among; is = found.is })
      (first_or_behind (f first) (map f xs) y is)

module _ {X Y : Type 0} (f : X → List Y) where
  pub in_lists : (xs : List X) (x : X) (y : Y) → Contains xs x → Contains (f x) y → Contains (flat_map f xs) y
  in_lists [] x y is of = absurd (none_of x is)
  in_lists (first ∷ xs) x y is of =
      ⊎_elim (λ same. Contains-append_left (f first) (flat_map f xs) y
      (subst (λ (one : X). Contains (f one) y) (sym same) of))
      (λ behind. Contains-append_right (f first) (flat_map f xs) y (in_lists xs x y behind of))
      (first_or_behind first xs x is)

  -- in which list an element stands
  pub record IsInList (xs : List X) (y : Y) : Type 0 where
    pub one : X
    pub among : Contains xs one
    pub has : Contains (f one) y

  pub from_lists : (xs : List X) (y : Y) → Contains (flat_map f xs) y → IsInList xs y
  from_lists [] y is = absurd (none_of y is)
  from_lists (first ∷ xs) y is =
      ⊎_elim (λ here. record { one = first; among = first_of first xs; has = here })
      (λ behind. let found = from_lists xs y behind in
      record { one = found.one; among = behind_first first xs found.one found.among; has = found.has })
      (Contains-append_cases (f first) (flat_map f xs) y is)

  pub flat_of_map : (xs : List X) → flat_map f xs ≡ flat_map (λ (ys : List Y). ys) (map f xs)
  flat_of_map [] = refl
  flat_of_map (x ∷ xs) = ap (λ (ys : List Y). f x ++ ys) (flat_of_map xs)
