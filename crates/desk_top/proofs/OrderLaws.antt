-- Builds of all sessions in the order of their places.
use Rattle.std.proofs.Common.{◌≡◌, ◌≢◌, ◌<◌, ◌≤◌, ◌+◌, ℕ, zero, suc, cond, eqb, eq-eqb, ne_eqb, List, [], ◌∷◌, Option, Some, None, sum_by, refl, sym, ap, ◌∙◌, arith}
use Rattle.std.specs.List.{slice_get}
use Rattle.std.proofs.lemmas.List.Sums.{sum_by-cons}
use Rattle.std.proofs.lemmas.Option.{none-some, same_Some}
use mathlib.Core.Logic.{dite}
use native.Mathlib.Decide.{ℕ_discrete}
use Rattle.facts.specs.Rows.{Stands}

module _ {B : Type 0} (place : B → ℕ) where
  -- the build at a place
  abbrev pub found_at : List B → ℕ → Option B
  found_at [] spot = None
  found_at (one ∷ all) spot = cond (eqb (place one) spot) (Some one) (found_at all spot)

  found_here : (one : B) (all : List B) (spot : ℕ) → place one ≡ spot → found_at (one ∷ all) spot ≡ Some one
  found_here one all spot same = ap (λ b. cond b (Some one) (found_at all spot)) (eq-eqb (place one) spot same)

  found_behind : (one : B) (all : List B) (spot : ℕ) → place one ≢ spot → found_at (one ∷ all) spot ≡ found_at all spot
  found_behind one all spot other = ap (λ b. cond b (Some one) (found_at all spot)) (ne_eqb (place one) spot other)

  pub record IsThere (all : List B) (spot : ℕ) (one : B) : Type 0 where
    pub stands : Stands all one
    pub at : place one ≡ spot

  pub there : (all : List B) (spot : ℕ) (one : B) → found_at all spot ≡ Some one → IsThere all spot one
  there [] spot one is = absurd (none-some one is)
  there (first ∷ all) spot one is = dite (ℕ_discrete (place first) spot)
      (λ same. (let this : first ≡ one = same_Some first one (sym (found_here first all spot same) ∙ is) in
      record { stands = (0, ap Some this); at = ap place (sym this) ∙ same }))
      (λ other. (let rest = there all spot one (sym (found_behind first all spot other) ∙ is) in
      record { stands = (suc rest.stands.0, rest.stands.1); at = rest.at }))

  -- no two have one place
  abbrev pub AreApart : List B → Type 0
  AreApart all = (j k : ℕ) (one other : B) → j < k → slice_get all j ≡ Some one → slice_get all k ≡ Some other
      → place one ≢ place other

  apart_behind : (one : B) (all : List B) → AreApart (one ∷ all) → AreApart all
  apart_behind one all apart j k x y less = apart (suc j) (suc k) x y (omega (arith, less))

  none_behind : (one : B) (all : List B) → AreApart (one ∷ all) → found_at all (place one) ≡ None
  none_behind one all apart = by_found (found_at all (place one)) refl
    where
      by_found : (found : Option B) → found_at all (place one) ≡ found → found ≡ None
      by_found None is = refl
      by_found (Some other) is =
          let rest = there all (place one) other is in
          absurd (apart 0 (suc rest.stands.0) one other (omega arith) refl rest.stands.1 (sym rest.at))

  pub found_of : (all : List B) → AreApart all → (one : B) → Stands all one → found_at all (place one) ≡ Some one
  found_of [] apart one stands = absurd (none-some one stands.1)
  found_of (first ∷ all) apart one (zero, at) =
      let same = same_Some first one at in
      found_here first all (place one) (ap place same) ∙ at
  found_of (first ∷ all) apart one (suc k, at) =
      found_behind first all (place one) (apart 0 (suc k) first one (omega arith) refl at)
      ∙ found_of all (apart_behind first all apart) one (k, at)

  -- In order

  abbrev put : Option B → List B → List B
  put None rest = rest
  put (Some one) rest = one ∷ rest

  -- those at so many places from this one on
  abbrev pub ordered : List B → ℕ → ℕ → List B
  ordered all from zero = []
  ordered all from (suc count) = put (found_at all from) (ordered all (from + 1) count)

  pub record IsWithin (all : List B) (from count : ℕ) (one : B) : Type 0 where
    pub stands : Stands all one
    pub low : from ≤ place one
    pub high : place one < from + count

  within_by : (all : List B) (from count : ℕ) (one : B)
      → ((k : ℕ) → slice_get (ordered all (from + 1) count) k ≡ Some one → IsWithin all (from + 1) count one)
      → (found : Option B) → found_at all from ≡ found → (k : ℕ)
      → slice_get (put found (ordered all (from + 1) count)) k ≡ Some one → IsWithin all from (suc count) one
  within_by all from count one rest found is k at = by_found found is k at
    where
      wider : IsWithin all (from + 1) count one → IsWithin all from (suc count) one
      wider inside =
          record { stands = inside.stands; low = omega (arith, inside.low); high = omega (arith, inside.high) }

      by_found : (f : Option B) → found_at all from ≡ f → (j : ℕ)
          → slice_get (put f (ordered all (from + 1) count)) j ≡ Some one → IsWithin all from (suc count) one
      by_found None same j e = wider (rest j e)
      by_found (Some first) same zero e =
          let here = there all from one (same ∙ e) in
          record { stands = here.stands; low = omega (arith, here.at); high = omega (arith, here.at) }
      by_found (Some first) same (suc j) e = wider (rest j e)

  within : (all : List B) (from count k : ℕ) (one : B) → slice_get (ordered all from count) k ≡ Some one
      → IsWithin all from count one
  within all from zero k one at = absurd (none-some one at)
  within all from (suc count) k one at =
      within_by all from count one (λ j e. within all (from + 1) count j one e) (found_at all from) refl k at

  pub ordered_within : (all : List B) (from count : ℕ) (one : B) → Stands (ordered all from count) one
      → IsWithin all from count one
  ordered_within all from count one stands = within all from count stands.0 one stands.1

  rises_by : (all : List B) (from count : ℕ) (one other : B)
      → ((j k : ℕ) → j < k → slice_get (ordered all (from + 1) count) j ≡ Some one
      → slice_get (ordered all (from + 1) count) k ≡ Some other → place one < place other)
      → (found : Option B) → found_at all from ≡ found → (j k : ℕ) → j < k
      → slice_get (put found (ordered all (from + 1) count)) j ≡ Some one
      → slice_get (put found (ordered all (from + 1) count)) k ≡ Some other → place one < place other
  rises_by all from count one other rest None is j k before e g = rest j k before e g
  rises_by all from count one other rest (Some first) is j zero before e g = absurd (omega (arith, before))
  rises_by all from count one other rest (Some first) is zero (suc k) before e g =
      let first_at = (there all from one (is ∙ e)).at in
      let later = within all (from + 1) count k other g in omega (arith, first_at, later.low)
  rises_by all from count one other rest (Some first) is (suc j) (suc k) before e g =
      rest j k (omega (arith, before)) e g

  pub rises : (all : List B) (from count : ℕ) (j k : ℕ) (one other : B) → j < k
      → slice_get (ordered all from count) j ≡ Some one → slice_get (ordered all from count) k ≡ Some other
      → place one < place other
  rises all from zero j k one other less here after = absurd (none-some one here)
  rises all from (suc count) j k one other less here after =
      rises_by all from count one other (λ i l. rises all (from + 1) count i l one other) (found_at all from) refl j k less
      here after

  put_stands : (found : Option B) (rest : List B) (one : B) → found ≡ Some one → Stands (put found rest) one
  put_stands None rest one is = absurd (none-some one is)
  put_stands (Some other) rest one is = (0, is)

  put_later : (found : Option B) (rest : List B) (one : B) → Stands rest one → Stands (put found rest) one
  put_later None rest one stands = stands
  put_later (Some other) rest one stands = (suc stands.0, stands.1)

  -- each stands among those in order
  pub stands_ordered : (all : List B) (from count : ℕ) → AreApart all → (one : B) → Stands all one → from ≤ place one
      → place one < from + count → Stands (ordered all from count) one
  stands_ordered all from zero apart one stands low high = absurd (omega (arith, low, high))
  stands_ordered all from (suc count) apart one stands low high = dite (ℕ_discrete (place one) from)
      (λ same. put_stands (found_at all from) (ordered all (from + 1) count) one
      (ap (found_at all) (sym same) ∙ found_of all apart one stands))
      (λ other. put_later (found_at all from) (ordered all (from + 1) count) one
      (stands_ordered all (from + 1) count apart one stands (omega (arith, low, other)) (omega (arith, high))))

  -- What they weigh

  module _ (f : B → ℕ) where
    abbrev weight_in : Option B → ℕ
    weight_in None = 0
    weight_in (Some one) = f one

    weigh_put : (found : Option B) (rest : List B) → sum_by f (put found rest) ≡ weight_in found + sum_by f rest
    weigh_put None rest = omega arith
    weigh_put (Some one) rest = sum_by-cons f one rest

    weigh_none : (from count : ℕ) → sum_by f (ordered [] from count) ≡ 0
    weigh_none from zero = refl
    weigh_none from (suc count) = weigh_none (from + 1) count

    -- one that is before all these places adds nothing
    weigh_before : (one : B) (all : List B) (from count : ℕ) → place one < from
        → sum_by f (ordered (one ∷ all) from count) ≡ sum_by f (ordered all from count)
    weigh_before one all from zero before = refl
    weigh_before one all from (suc count) before =
        weigh_put (found_at (one ∷ all) from) (ordered (one ∷ all) (from + 1) count)
        ∙ ap (λ found. weight_in found + sum_by f (ordered (one ∷ all) (from + 1) count))
        (found_behind one all from (λ same. omega (arith, same, before)))
        ∙ ap (λ n. weight_in (found_at all from) + n) (weigh_before one all (from + 1) count (omega (arith, before)))
        ∙ sym (weigh_put (found_at all from) (ordered all (from + 1) count))

    weigh_one : (one : B) (all : List B) (from count : ℕ) → found_at all (place one) ≡ None → from ≤ place one
        → place one < from + count → sum_by f (ordered (one ∷ all) from count) ≡ f one + sum_by f (ordered all from count)
    weigh_one one all from zero none low high = absurd (omega (arith, low, high))
    weigh_one one all from (suc count) none low high = dite (ℕ_discrete (place one) from)
        (λ same. (
        let here : weight_in (found_at (one ∷ all) from) ≡ f one = weighs_some one (found_here one all from same) in
        let nothing : weight_in (found_at all from) ≡ 0 = weighs_none (ap (found_at all) (sym same) ∙ none) in
        omega (
          arith,
          weigh_put (found_at (one ∷ all) from) (ordered (one ∷ all) (from + 1) count),
          here,
          weigh_before one all (from + 1) count (omega (arith, same)),
          weigh_put (found_at all from) (ordered all (from + 1) count),
          nothing,
        )))
        (λ other. (
        let here : weight_in (found_at (one ∷ all) from) ≡ weight_in (found_at all from) =
        ap weight_in (found_behind one all from other) in
        omega (
          arith,
          weigh_put (found_at (one ∷ all) from) (ordered (one ∷ all) (from + 1) count),
          here,
          weigh_one one all (from + 1) count none (omega (arith, low, other)) (omega (arith, high)),
          weigh_put (found_at all from) (ordered all (from + 1) count),
        )))
      where
        weighs_some : {found : Option B} (x : B) → found ≡ Some x → weight_in found ≡ f x
        weighs_some x is = ap weight_in is

        weighs_none : {found : Option B} → found ≡ None → weight_in found ≡ 0
        weighs_none is = ap weight_in is

    -- those in order weigh what all weigh
    pub weigh_ordered : (all : List B) (count : ℕ) → AreApart all
        → ((k : ℕ) (one : B) → slice_get all k ≡ Some one → place one < count)
        → sum_by f (ordered all 0 count) ≡ sum_by f all
    weigh_ordered [] count apart low = weigh_none 0 count
    weigh_ordered (one ∷ all) count apart low = omega (
      arith,
      weigh_one one all 0 count (none_behind one all apart) (omega arith) (omega (arith, low 0 one refl)),
      weigh_ordered all count (apart_behind one all apart) (λ k. low (suc k)),
      sum_by-cons f one all,
    )
