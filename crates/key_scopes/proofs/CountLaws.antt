-- Where a list is parted by a test, the place between is the number of those that pass.
use Rattle.std.specs.Prelude.{◌≡◌, ◌<◌, ◌≤◌, ℕ, zero, suc, Bool, true, false, List, [], ◌∷◌, filter, length}
use Rattle.std.specs.List.Sorted.{IsPartitionPoint, IsPartitionedBy}
use Rattle.std.proofs.Common.{refl, sym, ap, ◌∙◌, arith, get_or}
use Rattle.std.proofs.lemmas.Bool.{true≢false}

module _ {X : Type 0} (p : X → Bool) where
  pub point_count : (xs : List X) (n : ℕ) → n ≤ length xs
      → IsPartitionPoint (λ x. p x ≡ true) (λ x. p x ≡ false) xs n → n ≡ length (filter p xs)
  point_count [] n within part = omega (arith, within)
  point_count (x ∷ xs) zero within part =
      let out : p x ≡ false = part.1 0 x (omega arith) (omega arith) in
      rw out (point_count xs zero (omega arith) (
        (λ k d low high. absurd (omega (arith, high))),
        λ k d low high. part.1 (suc k) d (omega arith) (omega (arith, high)),
      ))
  point_count (x ∷ xs) (suc n) within part =
      let inside : p x ≡ true = part.0 0 x (omega arith) (omega arith) in
      let behind = point_count xs n (omega (arith, within)) (
        (λ k d low high. part.0 (suc k) d (omega arith) (omega (arith, high))),
        λ k d low high. part.1 (suc k) d (omega (arith, low)) (omega (arith, high)),
      ) in
      rw inside (omega (arith, behind))

  parted_rest : (x : X) (xs : List X) → IsPartitionedBy p (x ∷ xs) → IsPartitionedBy p xs
  parted_rest x xs parted i j d low high = parted (suc i) (suc j) d (omega (arith, low)) (omega (arith, high))

  none_passes : (x : X) (xs : List X) → IsPartitionedBy p (x ∷ xs) → p x ≡ false → (k : ℕ) (d : X) → k < length xs
      → p (get_or xs k d) ≡ false
  none_passes x xs parted out k d high = by_test (p (get_or xs k d)) refl
    where
      by_test : (a : Bool) → p (get_or xs k d) ≡ a → p (get_or xs k d) ≡ false
      by_test false e = e
      by_test true e =
          absurd (true≢false (sym (parted 0 (suc k) d (omega arith) (omega (arith, high)) e) ∙ out))

  nothing_left : (xs : List X) → ((k : ℕ) (d : X) → k < length xs → p (get_or xs k d) ≡ false) → filter p xs ≡ []
  nothing_left [] none = refl
  nothing_left (x ∷ xs) none =
      let out : p x ≡ false = none 0 x (omega arith) in
      rw out (nothing_left xs (λ k d high. none (suc k) d (omega (arith, high))))

  passes : (xs : List X) → IsPartitionedBy p xs → (k : ℕ) (d : X) → k < length (filter p xs)
      → p (get_or xs k d) ≡ true
  passes [] parted k d high = absurd (omega (arith, high))
  passes (x ∷ xs) parted k d high =
      by_test (λ n less. passes xs (parted_rest x xs parted) n d less) (p x) refl k high
    where
      by_test : ((n : ℕ) → n < length (filter p xs) → p (get_or xs n d) ≡ true) → (a : Bool) → p x ≡ a → (n : ℕ)
          → n < length (filter p (x ∷ xs)) → p (get_or (x ∷ xs) n d) ≡ true
      by_test behind true e zero less = e
      by_test behind true e (suc n) less =
          let more : length (filter p (x ∷ xs)) ≡ suc (length (filter p xs)) = rw e (omega arith) in
          behind n (omega (arith, less, more))
      by_test behind false e n less =
          let none : length (filter p (x ∷ xs)) ≡ 0 =
          rw e (ap length (nothing_left xs (none_passes x xs parted e))) in
          absurd (omega (arith, less, none))

  fails : (xs : List X) → IsPartitionedBy p xs → (k : ℕ) (d : X) → length (filter p xs) ≤ k → k < length xs
      → p (get_or xs k d) ≡ false
  fails [] parted k d low high = absurd (omega (arith, high))
  fails (x ∷ xs) parted k d low high =
      by_test (λ n less more. fails xs (parted_rest x xs parted) n d less more) (p x) refl k low high
    where
      by_test : ((n : ℕ) → length (filter p xs) ≤ n → n < length xs → p (get_or xs n d) ≡ false) → (a : Bool) → p x ≡ a
          → (n : ℕ) → length (filter p (x ∷ xs)) ≤ n → n < length (x ∷ xs) → p (get_or (x ∷ xs) n d) ≡ false
      by_test behind true e zero less more =
          let some : length (filter p (x ∷ xs)) ≡ suc (length (filter p xs)) = rw e (omega arith) in
          absurd (omega (arith, less, some))
      by_test behind true e (suc n) less more =
          let some : length (filter p (x ∷ xs)) ≡ suc (length (filter p xs)) = rw e (omega arith) in
          behind n (omega (arith, less, some)) (omega (arith, more))
      by_test behind false e zero less more = e
      by_test behind false e (suc n) less more = none_passes x xs parted e n d (omega (arith, more))

  pub count_parts : (xs : List X) → IsPartitionedBy p xs
      → IsPartitionPoint (λ x. p x ≡ true) (λ x. p x ≡ false) xs (length (filter p xs))
  count_parts xs parted = ((λ k d low high. passes xs parted k d high), λ k d low high. fails xs parted k d low high)

  pub count_within : (xs : List X) → length (filter p xs) ≤ length xs
  count_within [] = omega arith
  count_within (x ∷ xs) = by_test (count_within xs) (p x) refl
    where
      by_test : length (filter p xs) ≤ length xs → (a : Bool) → p x ≡ a → length (filter p (x ∷ xs)) ≤ length (x ∷ xs)
      by_test behind true e = rw e (omega (arith, behind))
      by_test behind false e = rw e (omega (arith, behind))
