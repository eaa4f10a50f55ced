-- Elements of lists: of a list with one more before it, of a mapped list, and of lists put together.
use Rattle.std.proofs.Common.{◌≡◌, ◌⊎◌, zero, suc, List, [], ◌∷◌, Some, Contains, ap, ◌∙◌, flat_map, inl, inr, map, refl, subst, sym, ⊎_elim, arith}
use Rattle.std.proofs.lemmas.List.Elements.{Contains-append_cases, Contains-append_left, Contains-append_right}
use Rattle.std.proofs.lemmas.Option.{get_or_from_slice_get, slice_get-get_or, slice_get_within, same_Some}
use Rattle.std.specs.List.{slice_get}
use Rattle.facts.specs.Rows.{Stands}

pub first_of : {X : Type 0} (x : X) (xs : List X) → Contains (x ∷ xs) x
first_of x xs = (0, omega arith, refl)

pub behind_first : {X : Type 0} (x : X) (xs : List X) (y : X) → Contains xs y → Contains (x ∷ xs) y
behind_first x xs y is = Contains-append_right (x ∷ []) xs y is

pub first_or_behind : {X : Type 0} (x : X) (xs : List X) (y : X) → Contains (x ∷ xs) y → (x ≡ y) ⊎ Contains xs y
first_or_behind x xs y (zero, within, is) = inl is
first_or_behind x xs y (suc k, within, is) = inr (k, omega arith, is)

pub none_of : {X : Type 0} (x : X) → Contains [] x → ⊥
none_of x (k, within, is) = absurd (omega arith)

-- the same with the place of the element
pub stands_contained : {X : Type 0} (xs : List X) (x : X) → Stands xs x → Contains xs x
stands_contained xs x stands = (
  stands.0,
  slice_get_within xs stands.0 x stands.1,
  get_or_from_slice_get xs stands.0 x x stands.1,
)

pub contained_stands : {X : Type 0} (xs : List X) (x : X) → Contains xs x → Stands xs x
contained_stands xs x (k, within, is) = (k, slice_get-get_or xs k x within ∙ ap Some is)

pub same_first : {X : Type 0} (x y : X) (xs ys : List X) → x ∷ xs ≡ y ∷ ys → x ≡ y
same_first x y xs ys same = same_Some x y (ap (λ all. slice_get all 0) same)

module _ {X Y : Type 0} (f : X → Y) where
  pub mapped : (xs : List X) (x : X) → Contains xs x → Contains (map f xs) (f x)
  mapped [] x is = absurd (none_of x is)
  mapped (first ∷ xs) x is =
      ⊎_elim (λ same. subst (λ (one : X). Contains (map f (first ∷ xs)) (f one)) same (first_of (f first) (map f xs)))
      (λ behind. behind_first (f first) (map f xs) (f x) (mapped xs x behind)) (first_or_behind first xs x is)

  -- what is mapped to an element
  pub record IsMappedTo (xs : List X) (y : Y) : Type 0 where
    pub one : X
    pub among : Contains xs one
    pub is : f one ≡ y

  pub mapped_from : (xs : List X) (y : Y) → Contains (map f xs) y → IsMappedTo xs y
  mapped_from [] y is = absurd (none_of y is)
  mapped_from (first ∷ xs) y is =
      ⊎_elim (λ same. record { one = first; among = first_of first xs; is = same })
      (λ behind. let found = mapped_from xs y behind in
      record { one = found.one; among = behind_first first xs found.one found.among; is = found.is })
      (first_or_behind (f first) (map f xs) y is)

pub in_lists : {X Y : Type 0} (f : X → List Y) (xs : List X) (x : X) (y : Y) → Contains xs x → Contains (f x) y
    → Contains (flat_map f xs) y
in_lists f [] x y is of = absurd (none_of x is)
in_lists {X} {Y} f (first ∷ xs) x y is of =
    ⊎_elim (λ same. Contains-append_left (f first) (flat_map f xs) y
    (subst (λ (one : X). Contains (f one) y) (sym same) of))
    (λ behind. Contains-append_right (f first) (flat_map f xs) y (in_lists f xs x y behind of))
    (first_or_behind first xs x is)

-- in which list an element stands
pub record IsInList {X Y : Type 0} (f : X → List Y) (xs : List X) (y : Y) : Type 0 where
  pub one : X
  pub among : Contains xs one
  pub has : Contains (f one) y

pub from_lists : {X Y : Type 0} (f : X → List Y) (xs : List X) (y : Y) → Contains (flat_map f xs) y → IsInList f xs y
from_lists f [] y is = absurd (none_of y is)
from_lists f (first ∷ xs) y is =
    ⊎_elim (λ here. record { one = first; among = first_of first xs; has = here })
    (λ behind. let found = from_lists f xs y behind in
    record { one = found.one; among = behind_first first xs found.one found.among; has = found.has })
    (Contains-append_cases (f first) (flat_map f xs) y is)
