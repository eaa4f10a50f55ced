-- Numbers that differ, each of which stands in a list, are no more than the list has.
use Rattle.std.proofs.Common.{◌≡◌, ◌≢◌, ◌<◌, ◌≤◌, ℕ, zero, suc, List, [], ◌∷◌, ◌++◌, Some, length, length-append, refl, sym, ap, subst, ⊎_elim, arith}
use Rattle.std.specs.List.{slice_get}
use Rattle.std.proofs.lemmas.Option.{none-some, same_Some}
use Rattle.facts.specs.Rows.{Stands}
use Rattle.desk_work.proofs.Lists.{stands_either, stands_left, stands_right}

-- a list in two, with one between
record IsBetween {X : Type 0} (xs : List X) (x : X) : Type 0 where
  front : List X
  back : List X
  is : xs ≡ front ++ x ∷ back

between_at : {X : Type 0} (xs : List X) (k : ℕ) (x : X) → slice_get xs k ≡ Some x → IsBetween xs x
between_at [] k x at = absurd (none-some x at)
between_at (y ∷ xs) zero x at =
    let same = same_Some y x at in record { front = []; back = xs; is = λ i. same i ∷ xs }
between_at (y ∷ xs) (suc k) x at =
    let rest = between_at xs k x at in
    record { front = y ∷ rest.front; back = rest.back; is = ap (λ list. y ∷ list) rest.is }

stands_but : {X : Type 0} (front back : List X) (x y : X) → y ≢ x → Stands (front ++ x ∷ back) y
    → Stands (front ++ back) y
stands_but front back x y other stands =
    ⊎_elim (λ first. stands_left front back y first) (λ behind. stands_right front back y (later behind))
    (stands_either front (x ∷ back) stands.0 y stands.1)
  where
    later : Stands (x ∷ back) y → Stands back y
    later (zero, at) = absurd (other (sym (same_Some x y at)))
    later (suc k, at) = (k, at)

pub few_different : {X : Type 0} (xs ys : List X)
    → ((j k : ℕ) (x y : X) → j < k → slice_get xs j ≡ Some x → slice_get xs k ≡ Some y → x ≢ y)
    → ((k : ℕ) (x : X) → slice_get xs k ≡ Some x → Stands ys x) → length xs ≤ length ys
few_different [] ys different each = omega arith
few_different (x ∷ xs) ys different each =
    let here = each 0 x refl in
    let cut = between_at ys here.0 x here.1 in
    let rest = few_different xs (cut.front ++ cut.back) (λ j k y z less. different (suc j) (suc k) y z (omega (arith, less)))
    (λ k y at. stands_but cut.front cut.back x y
    (λ same. different 0 (suc k) x y (omega arith) refl at (sym same))
    (subst (λ list. Stands list y) cut.is (each (suc k) y at))) in
    omega (
      arith,
      rest,
      ap length cut.is,
      length-append cut.front cut.back,
      length-append cut.front (x ∷ cut.back),
    )
