-- Names in turn, parted by halving; and the first of them whose scope defines a key.
use Rattle.std.specs.Prelude.{◌≡◌, ◌<◌, ◌≤◌, ◌==◌, ◌&&◌, ◌⊎◌, ℕ, zero, suc, Bool, true, false, not, List, [], ◌∷◌, Option, Some, None, drop, filter, find, is_some, length, nat_le, nat_lt, take}
use Rattle.std.specs.List.{All}
use Rattle.std.specs.List.Sorted.{IsPartitionPoint, IsPartitionedBy}
use Rattle.std.proofs.Common.{refl, sym, ap, ◌∙◌, arith, get_or, inl, inr}
use Rattle.std.proofs.lemmas.Bool.{cases_Bool, eqb-true}
use Rattle.std.proofs.lemmas.Bool.Decides.{nat_tests}
use Rattle.std.proofs.lemmas.List.Elements.{All-cons, All-head, All-tail, All-weaker}
use Rattle.key_scopes.specs.declared.children.ChildName.{ChildName}
use Rattle.key_scopes.specs.Defined.{IsFirstHolder, IsNextHolder}
use Rattle.key_scopes.specs.Ways.{AreInTurn, is_later}
use Rattle.key_scopes.proofs.DotLaws.{find_same}
use Rattle.key_scopes.proofs.FirstLaws.{find_filter}
use Rattle.key_scopes.proofs.TurnLaws.{in_turn_at, later_cases}

-- The two parts of a list

module _ {X : Type 0} (p : X → Bool) where
  front_passes : (xs : List X) (at : ℕ)
      → ((k : ℕ) (d : X) → 0 ≤ k → k < at → p (get_or xs k d) ≡ true)
      → ((k : ℕ) (d : X) → at ≤ k → k < length xs → p (get_or xs k d) ≡ false) → take at xs ≡ filter p xs
  front_passes [] zero before after = refl
  front_passes [] (suc at) before after = refl
  front_passes (x ∷ xs) zero before after =
      rw (after 0 x (omega arith) (omega arith))
      (front_passes xs zero (λ k d low high. absurd (omega (arith, high)))
      (λ k d low high. after (suc k) d (omega arith) (omega (arith, high))))
  front_passes (x ∷ xs) (suc at) before after =
      rw (before 0 x (omega arith) (omega arith))
      (ap (λ more. x ∷ more) (front_passes xs at
      (λ k d low high. before (suc k) d (omega arith) (omega (arith, high)))
      (λ k d low high. after (suc k) d (omega (arith, low)) (omega (arith, high)))))

  back_passes : (xs : List X) (at : ℕ)
      → ((k : ℕ) (d : X) → 0 ≤ k → k < at → p (get_or xs k d) ≡ false)
      → ((k : ℕ) (d : X) → at ≤ k → k < length xs → p (get_or xs k d) ≡ true) → drop at xs ≡ filter p xs
  back_passes [] zero before after = refl
  back_passes [] (suc at) before after = refl
  back_passes (x ∷ xs) zero before after =
      rw (after 0 x (omega arith) (omega arith))
      (ap (λ more. x ∷ more) (back_passes xs zero (λ k d low high. absurd (omega (arith, high)))
      (λ k d low high. after (suc k) d (omega arith) (omega (arith, high)))))
  back_passes (x ∷ xs) (suc at) before after =
      rw (before 0 x (omega arith) (omega arith))
      (back_passes xs at (λ k d low high. before (suc k) d (omega arith) (omega (arith, high)))
      (λ k d low high. after (suc k) d (omega (arith, low)) (omega (arith, high))))

pub front_part : {X : Type 0} (p : X → Bool) (xs : List X) (at : ℕ)
    → IsPartitionPoint (λ x. p x ≡ true) (λ x. p x ≡ false) xs at → take at xs ≡ filter p xs
front_part p xs at part = front_passes p xs at part.0 part.1

pub back_part : {X : Type 0} (p q : X → Bool) (xs : List X) (at : ℕ) → ((x : X) → q x ≡ not (p x))
    → IsPartitionPoint (λ x. p x ≡ true) (λ x. p x ≡ false) xs at → drop at xs ≡ filter q xs
back_part p q xs at are part =
    back_passes q xs at (λ k d low high. are (get_or xs k d) ∙ ap not (part.0 k d low high))
    (λ k d low high. are (get_or xs k d) ∙ ap not (part.1 k d low high))

pub all_pass : (names : List ChildName) → names ≡ filter (λ name. true) names
all_pass [] = refl
all_pass (name ∷ names) = ap (λ more. name ∷ more) (all_pass names)

pub twice_not : (a : Bool) → a ≡ not (not a)
twice_not true = refl
twice_not false = refl

-- Names in turn stand by scope

pub no_lower : (name other : ChildName) → is_later name.child name.rank other ≡ true → name.child ≤ other.child
no_lower name other later = by_case (later_cases name.child name.rank other later)
  where
    by_case : (name.child < other.child) ⊎ ((name.child ≡ other.child) × (name.rank < other.rank))
        → name.child ≤ other.child
    by_case (inl less) = omega (arith, less)
    by_case (inr same) = omega (arith, same.0)

pub parted_by_scope : (scope : ℕ) (names : List ChildName) → AreInTurn names
    → IsPartitionedBy (λ (name : ChildName). nat_lt name.child scope) names
parted_by_scope scope names turn i j d le inside below = by_test (cases_Bool (i == j))
  where
    by_test : ((i == j) ≡ true) ⊎ ((i == j) ≡ false) → nat_lt (get_or names i d).child scope ≡ true
    by_test (inl same) =
        ap (λ n. nat_lt (get_or names n d).child scope) (eqb-true i j same) ∙ below
    by_test (inr differs) =
        let less : i < j = grind (arith, nat_tests) in
        let low = no_lower (get_or names i d) (get_or names j d) (in_turn_at names turn i j d less inside) in
        let high : (get_or names j d).child < scope = grind (arith, nat_tests, below) in
        grind (arith, nat_tests, low, high)

pub from_scope : (scope : ℕ) (name : ChildName) → nat_le scope name.child ≡ not (nat_lt name.child scope)
from_scope scope name = by_test (nat_lt name.child scope) refl
  where
    by_test : (a : Bool) → nat_lt name.child scope ≡ a → nat_le scope name.child ≡ not a
    by_test true e = grind (arith, nat_tests)
    by_test false e = grind (arith, nat_tests)

-- The first name whose scope defines a key

module _ (own_at : ℕ → Option ℕ) (name : ChildName) (others : List ChildName) (turn : AreInTurn (name ∷ others)) where
  abbrev pub defines : ChildName → Bool
  defines name = is_some (own_at name.child)

  pub holder_here : (scope : ℕ) → IsFirstHolder own_at name.child scope → scope ≡ name.child
      → find defines (name ∷ others) ≡ Some name
  holder_here scope holder same =
      let here : defines name ≡ true = ap (λ n. is_some (own_at n)) (sym same) ∙ holder.holds in
      rw here refl

  nothing : (names : List ChildName) → All (λ n. defines n ≡ false) names → find defines names ≡ None
  nothing [] none = refl
  nothing (first ∷ names) none =
      rw (All-head (λ n. defines n ≡ false) first names none)
      (nothing names (All-tail (λ n. defines n ≡ false) first names none))

  pub no_holder : IsNextHolder own_at name.child None → find defines (name ∷ others) ≡ None
  no_holder none =
      nothing (name ∷ others) (All-cons (λ n. defines n ≡ false) name others
      (ap is_some (none name.child (omega arith)))
      (All-weaker (λ n. is_later name.child name.rank n ≡ true) (λ n. defines n ≡ false)
      (λ n later. ap is_some (none n.child (no_lower name n later))) others turn.0))

  pub holder_behind : (scope : ℕ) → IsFirstHolder own_at name.child scope → (scope ≡ name.child → ⊥)
      → find defines (name ∷ others) ≡ find defines (filter (λ (n : ChildName). nat_le scope n.child) others)
  holder_behind scope holder differs =
      rw (passed name (omega arith) (omega (arith, differs, holder.behind)))
      (find_same defines (λ n. nat_le scope n.child && defines n) others
      (All-weaker (λ n. is_later name.child name.rank n ≡ true)
      (λ n. defines n ≡ (nat_le scope n.child && defines n))
      (λ n later. by_test n (no_lower name n later) (nat_le scope n.child) refl) others turn.0)
      ∙ sym (find_filter defines (λ (n : ChildName). nat_le scope n.child) others))
    where
      passed : (n : ChildName) → name.child ≤ n.child → n.child < scope → defines n ≡ false
      passed n low high = ap is_some (holder.first n.child low high)

      by_test : (n : ChildName) → name.child ≤ n.child → (a : Bool) → nat_le scope n.child ≡ a
          → defines n ≡ (a && defines n)
      by_test n low true e = refl
      by_test n low false e = passed n low (grind (arith, nat_tests))
