-- Lists in which a test holds of some element.
use Rattle.std.specs.Prelude.{◌≡◌, ◌+◌, ◌<◌, ◌&&◌, ◌||◌, ℕ, zero, suc, Bool, true, false, List, [], ◌∷◌, Option, Some, None, filter, slice_get, take}
use Rattle.std.specs.List.{filter_map, list_any}
use Rattle.std.specs.Option.{option_map_or}
use Rattle.std.proofs.Common.{refl, sym, ap, ◌∙◌, arith}
use Rattle.std.proofs.lemmas.Option.{same_Some}
use Rattle.dita_doc.specs.declared.plan.PlanNode.{PlanNode}
use Rattle.dita_doc.proofs.Tests.{one_further}
use Rattle.map_spec.specs.Scopes.{places_from}

-- an element at a place
pub record IsHere {X : Type 0} (p : X → Bool) (xs : List X) : Type 0 where
  pub at : ℕ
  pub item : X
  pub is : slice_get xs at ≡ Some item
  pub holds : p item ≡ true

pub any_where : {X : Type 0} (p : X → Bool) (xs : List X) → list_any p xs ≡ true → IsHere p xs
any_where p [] holds = cc
any_where {X} p (first ∷ xs) holds = by_test (p first) refl holds (any_where p xs)
  where
    by_test : (a : Bool) → p first ≡ a → (a || list_any p xs) ≡ true → (list_any p xs ≡ true → IsHere p xs)
        → IsHere p (first ∷ xs)
    by_test true e some behind = record { at = 0; item = first; is = refl; holds = e }
    by_test false e some behind =
        let there = behind some in
        record { at = suc there.at; item = there.item; is = there.is; holds = there.holds }

pub any_filter_map : {X Y : Type 0} (f : X → Option Y) (p : Y → Bool) (xs : List X)
    → list_any p (filter_map f xs) ≡ list_any (λ x. option_map_or p (f x) false) xs
any_filter_map f p [] = refl
any_filter_map {X} {Y} f p (x ∷ xs) = by_case (any_filter_map f p xs) (f x) refl
  where
    by_case : list_any p (filter_map f xs) ≡ list_any (λ x. option_map_or p (f x) false) xs → (y : Option Y) → f x ≡ y
        → list_any p (filter_map f (x ∷ xs)) ≡ list_any (λ x. option_map_or p (f x) false) (x ∷ xs)
    by_case behind None e = rw e behind
    by_case behind (Some y) e = rw e (ap (λ b. p y || b) behind)

pub any_filter : {X : Type 0} (q p : X → Bool) (xs : List X)
    → list_any p (filter q xs) ≡ list_any (λ x. q x && p x) xs
any_filter q p [] = refl
any_filter {X} q p (x ∷ xs) = by_case (any_filter q p xs) (q x) refl
  where
    by_case : list_any p (filter q xs) ≡ list_any (λ x. q x && p x) xs → (a : Bool) → q x ≡ a
        → list_any p (filter q (x ∷ xs)) ≡ list_any (λ x. q x && p x) (x ∷ xs)
    by_case behind true e = rw e (ap (λ b. p x || b) behind)
    by_case behind false e = rw e behind

-- Places

pub place_there : (from at : ℕ) (nodes : List PlanNode) (node : PlanNode) → slice_get nodes at ≡ Some node
    → slice_get (places_from from nodes) at ≡ Some (from + at)
place_there from zero [] node is = cc
place_there from (suc at) [] node is = cc
place_there from zero (first ∷ nodes) node is =
    let same : from ≡ from + 0 = omega arith in ap (λ n. Some n) same
place_there from (suc at) (first ∷ nodes) node is =
    place_there (from + 1) at nodes node is ∙ ap (λ n. Some n) (one_further from at)

-- what stands at a place of the places is that place, and a node is there
pub record IsPlace (from at place : ℕ) (nodes : List PlanNode) : Type 0 where
  pub is : place ≡ from + at
  pub node : PlanNode
  pub there : slice_get nodes at ≡ Some node

pub place_is : (from at place : ℕ) (nodes : List PlanNode) → slice_get (places_from from nodes) at ≡ Some place
    → IsPlace from at place nodes
place_is from zero place [] is = cc
place_is from (suc at) place [] is = cc
place_is from zero place (first ∷ nodes) is =
    let zeroth : from ≡ from + 0 = omega arith in
    record { is = sym (same_Some from place is) ∙ zeroth; node = first; there = refl }
place_is from (suc at) place (first ∷ nodes) is =
    let behind = place_is (from + 1) at place nodes is in
    record { is = behind.is ∙ one_further from at; node = behind.node; there = behind.there }

pub take_there : {X : Type 0} (n at : ℕ) (xs : List X) (x : X) → at < n → slice_get xs at ≡ Some x
    → slice_get (take n xs) at ≡ Some x
take_there zero at xs x less is = absurd (omega (arith, less))
take_there (suc n) zero [] x less is = cc
take_there (suc n) (suc at) [] x less is = cc
take_there (suc n) zero (first ∷ xs) x less is = is
take_there (suc n) (suc at) (first ∷ xs) x less is = take_there n at xs x (omega (arith, less)) is

pub take_is : {X : Type 0} (n at : ℕ) (xs : List X) (x : X) → slice_get (take n xs) at ≡ Some x
    → (at < n) × (slice_get xs at ≡ Some x)
take_is zero zero xs x is = cc
take_is zero (suc at) xs x is = cc
take_is (suc n) zero [] x is = cc
take_is (suc n) (suc at) [] x is = cc
take_is (suc n) zero (first ∷ xs) x is = (omega arith, is)
take_is (suc n) (suc at) (first ∷ xs) x is =
    let behind = take_is n at xs x is in (omega (arith, behind.0), behind.1)

pub before_there : (first at : ℕ) (nodes : List PlanNode) (node : PlanNode) → first < at → slice_get nodes at ≡ Some node
    → (found : PlanNode) × (slice_get nodes first ≡ Some found)
before_there first zero nodes node less is = absurd (omega (arith, less))
before_there first (suc at) [] node less is = cc
before_there zero (suc at) (one ∷ nodes) node less is = (one, refl)
before_there (suc first) (suc at) (one ∷ nodes) node less is = before_there first at nodes node (omega (arith, less)) is
