-- Sorted lists: two that have each element as often are the same.
use Rattle.std.specs.Prelude.{◌≡◌, ◌+◌, ◌<◌, ℕ, zero, suc, Bool, true, false, List, [], ◌∷◌, filter, if◌then◌else◌}
use Rattle.std.specs.Cmp.{IsTotalOrder}
use Rattle.std.specs.List.{All, sum_by}
use Rattle.std.specs.List.Sorted.{IsPermutation, IsSorted}
use Rattle.std.specs.Ordering.{is_eq, is_lt, ordering_reverse}
use Rattle.std.proofs.Common.{Ordering, Less, Equal, Greater, refl, sym, ap, ap₂, subst, ◌∙◌, arith, get_or}
use Rattle.std.proofs.lemmas.Cmp.{tied_itself}
use Rattle.std.proofs.lemmas.List.Elements.{All-from_get_or, All-get_or, All-head, All-tail}
use Rattle.std.proofs.lemmas.List.Sorted.{ranks_by, sorted_far, sum_by-IsPermutation}
use Rattle.std.proofs.lemmas.List.Sums.{sum_by-cons}
use Rattle.dita_doc.proofs.Tests.{from_zero}

-- each function has the same sum over the two
abbrev pub HaveSame : {X : Type 0} → List X → List X → Type 0
HaveSame {X} xs ys = (f : X → ℕ) → sum_by f xs ≡ sum_by f ys

sum_filter : {X : Type 0} (p : X → Bool) (f : X → ℕ) (xs : List X)
    → sum_by f (filter p xs) ≡ sum_by (λ x. if p x then f x else 0) xs
sum_filter p f [] = refl
sum_filter {X} p f (x ∷ xs) =
    by_test (sum_filter p f xs) (p x) refl ∙ sym (sum_by-cons (λ y. if p y then f y else 0) x xs)
  where
    by_test : sum_by f (filter p xs) ≡ sum_by (λ y. if p y then f y else 0) xs → (a : Bool) → p x ≡ a
        → sum_by f (filter p (x ∷ xs)) ≡ (if p x then f x else 0) + sum_by (λ y. if p y then f y else 0) xs
    by_test behind true e = rw e (sum_by-cons f x (filter p xs) ∙ ap (λ n. f x + n) behind)
    by_test behind false e = rw e (behind ∙ from_zero (sum_by (λ y. if p y then f y else 0) xs))

-- of lists with the same elements, what passes a test
pub same_filtered : {X : Type 0} (p : X → Bool) (xs ys : List X) → IsPermutation xs ys
    → HaveSame (filter p ys) (filter p xs)
same_filtered p xs ys permuted f =
    sum_filter p f ys ∙ sum_by-IsPermutation (λ x. if p x then f x else 0) xs ys permuted ∙ sym (sum_filter p f xs)

neither : (o r : Ordering) → o ≡ ordering_reverse r → is_lt o ≡ false → is_lt r ≡ false → o ≡ Equal
neither Less r e f g = cc
neither Equal r e f g = refl
neither Greater Less e f g = cc
neither Greater Equal e f g = cc
neither Greater Greater e f g = cc

module _ {X : Type 0} (R : X → X → Ordering) (total : IsTotalOrder R) where
  abbrev pub NotBefore : X → X → Type 0
  NotBefore x y = is_lt (R y x) ≡ false

  -- the first of a sorted list is before none
  pub first_least : (x : X) (xs : List X) → IsSorted R (x ∷ xs) → All (NotBefore x) (x ∷ xs)
  first_least x xs sorted = All-from_get_or (NotBefore x) (x ∷ xs) x
      (λ j within. sorted_far (λ a b. is_lt (R a b)) (ranks_by total (λ y. y)) (x ∷ xs) sorted 0 j x (omega arith) within)

  next : (k : ℕ) → suc k + 1 ≡ suc (k + 1)
  next k = omega arith

  pub sorted_tail : (x : X) (xs : List X) → IsSorted R (x ∷ xs) → IsSorted R xs
  sorted_tail x xs sorted = λ k d low within.
      subst (λ n. is_lt (R (get_or (x ∷ xs) n d) (get_or xs k d)) ≡ false) (next k)
      (sorted (suc k) d (omega arith) (omega arith))

  pub sorted_cons : (x : X) (xs : List X) → All (NotBefore x) xs → IsSorted R xs → IsSorted R (x ∷ xs)
  sorted_cons x xs least sorted zero d low within = All-get_or (NotBefore x) xs 0 d (omega arith) least
  sorted_cons x xs least sorted (suc k) d low within =
      subst (λ n. is_lt (R (get_or (x ∷ xs) n d) (get_or xs k d)) ≡ false) (sym (next k))
      (sorted k d (omega arith) (omega arith))

  module _ (tied : (x y : X) → R x y ≡ Equal → x ≡ y) where
    abbrev hit : X → X → ℕ
    hit x y = if is_eq (R x y) then 1 else 0

    -- what is hit is one of the list
    hit_is : (P : X → Type 0) (x : X) (ys : List X) → 0 < sum_by (hit x) ys → All P ys → P x
    hit_is P x [] some all = absurd (omega arith)
    hit_is P x (y ∷ ys) some all =
        by_order (λ more. hit_is P x ys more (All-tail P y ys all)) (R x y) refl
      where
        more : hit x y ≡ 0 → 0 < sum_by (hit x) ys
        more e = let long = sum_by-cons (hit x) y ys in omega (arith, some, long, e)

        by_order : (0 < sum_by (hit x) ys → P x) → (o : Ordering) → R x y ≡ o → P x
        by_order behind Equal e = subst P (sym (tied x y e)) (All-head P y ys all)
        by_order behind Less e = behind (more (rw e refl))
        by_order behind Greater e = behind (more (rw e refl))

    hit_itself : (x : X) (xs : List X) → 0 < sum_by (hit x) (x ∷ xs)
    hit_itself x xs =
        let here : hit x x ≡ 1 = rw (tied_itself total x) refl in
        let long = sum_by-cons (hit x) x xs in
        omega (arith, here, long)

    pub sorted_same : (xs ys : List X) → IsSorted R xs → IsSorted R ys → HaveSame xs ys → xs ≡ ys
    sorted_same [] [] low high same = refl
    sorted_same [] (y ∷ ys) low high same =
        let some = hit_itself y ys in let none = same (hit y) in absurd (omega (arith, some, none))
    sorted_same (x ∷ xs) [] low high same =
        let some = hit_itself x xs in let none = same (hit x) in absurd (omega (arith, some, none))
    sorted_same (x ∷ xs) (y ∷ ys) low high same =
        let one : 0 < sum_by (hit x) (y ∷ ys) = subst (λ n. 0 < n) (same (hit x)) (hit_itself x xs) in
        let two : 0 < sum_by (hit y) (x ∷ xs) = subst (λ n. 0 < n) (sym (same (hit y))) (hit_itself y ys) in
        let here : x ≡ y = tied x y (neither (R x y) (R y x) (total.antisymm x y)
        (hit_is (NotBefore y) x (y ∷ ys) one (first_least y ys high))
        (hit_is (NotBefore x) y (x ∷ xs) two (first_least x xs low))) in
        ap₂ (λ (a : X) (more : List X). a ∷ more) here
        (sorted_same xs ys (sorted_tail x xs low) (sorted_tail y ys high)
        (λ f.
        let first = sum_by-cons f x xs in
        let second = sum_by-cons f y ys in
        let whole = same f in
        let heads = ap f here in
        omega (arith, first, second, whole, heads)))
