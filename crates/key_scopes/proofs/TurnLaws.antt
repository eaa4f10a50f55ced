-- Names by scope and rank: the first of some of them, and those behind it.
use Rattle.std.specs.Prelude.{◌≡◌, ◌+◌, ◌<◌, ◌≤◌, ◌==◌, ◌&&◌, ◌||◌, ◌⊎◌, ℕ, zero, suc, Bool, true, false, not, List, [], ◌∷◌, ◌++◌, Option, Some, None, filter, find, length, nat_lt, if◌then◌else◌}
use Rattle.std.specs.List.{All, flat_map}
use Rattle.std.specs.List.Sorted.{IsPartitionedBy}
use Rattle.std.proofs.Common.{refl, sym, ap, subst, ◌∙◌, arith, get_or, inl, inr}
use Rattle.std.proofs.lemmas.Bool.{cases_Bool, eq-eqb, eqb-true, true≢false}
use Rattle.std.proofs.lemmas.Bool.Decides.{nat_tests}
use Rattle.std.proofs.lemmas.List.Elements.{All-append, All-cons, All-get_or, All-head, All-nil, All-tail, All-weaker}
use Rattle.dita_doc.specs.declared.plan.Scope.{Scope}
use Rattle.key_scopes.specs.declared.children.ChildName.{ChildName}
use Rattle.key_scopes.specs.Children.{all_names, child_names_of, ranked}
use Rattle.key_scopes.specs.Ways.{AreInTurn, is_later}
use Rattle.key_scopes.proofs.FirstLaws.{find_is}
use Rattle.map_spec.specs.Scopes.{numbered}

-- The order

pub later_cases : (child rank : ℕ) (name : ChildName) → is_later child rank name ≡ true
    → (child < name.child) ⊎ ((child ≡ name.child) × (rank < name.rank))
later_cases child rank name e = by_one (nat_lt child name.child) refl
  where
    by_one : (a : Bool) → nat_lt child name.child ≡ a
        → (child < name.child) ⊎ ((child ≡ name.child) × (rank < name.rank))
    by_one true f = let less : child < name.child = grind (arith, nat_tests) in inl less
    by_one false f =
        let both : ((child == name.child) && nat_lt rank name.rank) ≡ true = rw f at e in by_two (child == name.child)
        (nat_lt rank name.rank) refl refl both
      where
        by_two : (a b : Bool) → (child == name.child) ≡ a → nat_lt rank name.rank ≡ b → (a && b) ≡ true
            → (child < name.child) ⊎ ((child ≡ name.child) × (rank < name.rank))
        by_two true true g h both =
            let less : rank < name.rank = grind (arith, nat_tests) in inr (eqb-true child name.child g, less)
        by_two true false g h both = cc
        by_two false b g h both = cc

pub later_scope : (child rank : ℕ) (name : ChildName) → child < name.child → is_later child rank name ≡ true
later_scope child rank name less =
    let test : nat_lt child name.child ≡ true = grind (arith, nat_tests) in rw test refl

pub later_rank : (child rank : ℕ) (name : ChildName) → child ≡ name.child → rank < name.rank
    → is_later child rank name ≡ true
later_rank child rank name same less =
    let first : nat_lt child name.child ≡ false = grind (arith, nat_tests) in
    let second : nat_lt rank name.rank ≡ true = grind (arith, nat_tests) in
    rw (first, eq-eqb child name.child same, second) refl

pub later_trans : (child rank : ℕ) (a b : ChildName) → is_later child rank a ≡ true → is_later a.child a.rank b ≡ true
    → is_later child rank b ≡ true
later_trans child rank a b first second =
    by_both (later_cases child rank a first) (later_cases a.child a.rank b second)
  where
    by_both : (child < a.child) ⊎ ((child ≡ a.child) × (rank < a.rank))
        → (a.child < b.child) ⊎ ((a.child ≡ b.child) × (a.rank < b.rank)) → is_later child rank b ≡ true
    by_both (inl f) (inl g) = later_scope child rank b (omega arith)
    by_both (inl f) (inr g) = later_scope child rank b (let same = g.0 in omega arith)
    by_both (inr f) (inl g) = later_scope child rank b (let same = f.0 in omega arith)
    by_both (inr f) (inr g) =
        later_rank child rank b (f.0 ∙ g.0) (let less = f.1 in let more = g.1 in omega arith)

-- of two one at most is later
pub not_later : (a b : ChildName) → is_later a.child a.rank b ≡ true → is_later b.child b.rank a ≡ false
not_later a b e = by_one (cases_Bool (is_later b.child b.rank a))
  where
    by_both : (a.child < b.child) ⊎ ((a.child ≡ b.child) × (a.rank < b.rank))
        → (b.child < a.child) ⊎ ((b.child ≡ a.child) × (b.rank < a.rank)) → is_later b.child b.rank a ≡ false
    by_both (inl f) (inl g) = absurd (omega arith)
    by_both (inl f) (inr g) = let same = g.0 in absurd (omega arith)
    by_both (inr f) (inl g) = let same = f.0 in absurd (omega arith)
    by_both (inr f) (inr g) = let less = f.1 in let more = g.1 in absurd (omega arith)

    by_one : (is_later b.child b.rank a ≡ true) ⊎ (is_later b.child b.rank a ≡ false)
        → is_later b.child b.rank a ≡ false
    by_one (inl f) = by_both (later_cases a.child a.rank b e) (later_cases b.child b.rank a f)
    by_one (inr f) = f

pub not_itself : (a : ChildName) → is_later a.child a.rank a ≡ false
not_itself a = by_one (cases_Bool (is_later a.child a.rank a))
  where
    by_one : (is_later a.child a.rank a ≡ true) ⊎ (is_later a.child a.rank a ≡ false) → is_later a.child a.rank a ≡ false
    by_one (inl f) = not_later a a f
    by_one (inr f) = f

-- Names in turn

pub in_turn_at : (names : List ChildName) → AreInTurn names → (i j : ℕ) (d : ChildName) → i < j → j < length names
    → is_later (get_or names i d).child (get_or names i d).rank (get_or names j d) ≡ true
in_turn_at [] turn i j d low within = absurd (omega arith)
in_turn_at (name ∷ names) turn i zero d low within = absurd (omega arith)
in_turn_at (name ∷ names) turn zero (suc j) d low within =
    All-get_or (λ other. is_later name.child name.rank other ≡ true) names j d (omega arith) turn.0
in_turn_at (name ∷ names) turn (suc i) (suc j) d low within =
    in_turn_at names turn.1 i j d (omega arith) (omega arith)

pub parted_in_turn : (child rank : ℕ) (names : List ChildName) → AreInTurn names
    → IsPartitionedBy (λ name. not (is_later child rank name)) names
parted_in_turn child rank names turn i j d le inside below = by_test (cases_Bool (i == j))
  where
    by_later : i < j → (is_later child rank (get_or names i d) ≡ true) ⊎ (is_later child rank (get_or names i d) ≡ false)
        → not (is_later child rank (get_or names i d)) ≡ true
    by_later less (inl f) =
        let later = later_trans child rank (get_or names i d) (get_or names j d) f
        (in_turn_at names turn i j d less inside) in
        absurd (true≢false (sym below ∙ ap not later))
    by_later less (inr f) = ap not f

    by_test : ((i == j) ≡ true) ⊎ ((i == j) ≡ false) → not (is_later child rank (get_or names i d)) ≡ true
    by_test (inl same) = ap (λ n. not (is_later child rank (get_or names n d))) (eqb-true i j same) ∙ below
    by_test (inr differs) =
        let less : i < j = grind (arith, nat_tests) in
        by_later less (cases_Bool (is_later child rank (get_or names i d)))

All-filtered : (P : ChildName → Type 0) (p : ChildName → Bool) (names : List ChildName) → All P names
    → All P (filter p names)
All-filtered P p [] all = All-nil P
All-filtered P p (name ∷ names) all =
    by_one (All-filtered P p names (All-tail P name names all)) (p name) refl
  where
    by_one : All P (filter p names) → (a : Bool) → p name ≡ a → All P (filter p (name ∷ names))
    by_one behind true e = rw e (All-cons P name (filter p names) (All-head P name names all) behind)
    by_one behind false e = rw e behind

pub filter_in_turn : (p : ChildName → Bool) (names : List ChildName) → AreInTurn names → AreInTurn (filter p names)
filter_in_turn p [] turn = turn
filter_in_turn p (name ∷ names) turn = by_one (filter_in_turn p names turn.1) (p name) refl
  where
    by_one : AreInTurn (filter p names) → (a : Bool) → p name ≡ a → AreInTurn (filter p (name ∷ names))
    by_one behind true e =
        rw e (All-filtered (λ other. is_later name.child name.rank other ≡ true) p names turn.0, behind)
    by_one behind false e = rw e behind

-- The first of those that pass one of two tests

abbrev pub is_not_behind : Option ChildName → ChildName → Bool
is_not_behind None name = true
is_not_behind (Some first) name = not (is_later first.child first.rank name)

pub find_neither : (p q r : ChildName → Bool) (names : List ChildName) → ((n : ChildName) → r n ≡ (p n || q n))
    → find q names ≡ None → find r names ≡ find p names
find_neither p q r [] are none = refl
find_neither p q r (name ∷ names) are none =
    by_two (λ there. find_neither p q r names are there) (p name) (q name) refl refl
  where
    by_two : (find q names ≡ None → find r names ≡ find p names) → (a b : Bool) → p name ≡ a → q name ≡ b
        → find r (name ∷ names) ≡ find p (name ∷ names)
    by_two behind a true e f = let there = rw f at none in absurd (cc)
    by_two behind true false e f = rw (are name, e) refl
    by_two behind false false e f = rw (are name, e, f) (behind (rw f at none))

pub find_either : (p q r : ChildName → Bool) (names : List ChildName) (found : ChildName) → AreInTurn names
    → ((n : ChildName) → r n ≡ (p n || q n)) → find q names ≡ Some found
    → find r names ≡ (if is_not_behind (find p names) found then Some found else find p names)
find_either p q r [] found turn are is = absurd (cc)
find_either p q r (name ∷ names) found turn are is =
    by_two (λ there. find_either p q r names found turn.1 are there) (p name) (q name) refl refl
  where
    by_found : (other : Option ChildName) → find p names ≡ other → name ≡ found
        → Some name ≡ (if is_not_behind other found then Some found else other)
    by_found None e same = ap Some same
    by_found (Some other) e same =
        let later = (find_is (λ n. is_later name.child name.rank n ≡ true) p names other e turn.0).0 in
        let not = not_later name other later in
        subst (λ n. Some name ≡ (if is_not_behind (Some other) n then Some n else Some other)) same (rw not refl)

    by_two : (find q names ≡ Some found
        → find r names ≡ (if is_not_behind (find p names) found then Some found else find p names))
        → (a b : Bool) → p name ≡ a → q name ≡ b
        → find r (name ∷ names)
        ≡ (if is_not_behind (find p (name ∷ names)) found then Some found else find p (name ∷ names))
    by_two behind true true e f =
        let there = rw f at is in
        let same : name ≡ found = cc in
        rw (are name, e) (subst (λ n. Some name ≡ (if is_not_behind (Some name) n then Some n else Some name)) same
        (rw (not_itself name) refl))
    by_two behind false true e f =
        let there = rw f at is in
        let same : name ≡ found = cc in
        rw (are name, e, f) (by_found (find p names) refl same)
    by_two behind true false e f =
        let there : find q names ≡ Some found = rw f at is in
        let later = (find_is (λ n. is_later name.child name.rank n ≡ true) q names found there turn.0).0 in
        rw (are name, e, later) refl
    by_two behind false false e f = rw (are name, e, f) (behind (rw f at is))

-- All names are in turn

both_in_turn : (first second : List ChildName) → AreInTurn first → AreInTurn second
    → All (λ name. All (λ other. is_later name.child name.rank other ≡ true) second) first
    → AreInTurn (first ++ second)
both_in_turn [] second one two all = two
both_in_turn (name ∷ names) second one two all = (
  All-append (λ other. is_later name.child name.rank other ≡ true) names second one.0
      (All-head (λ name. All (λ other. is_later name.child name.rank other ≡ true) second) name names all),
  both_in_turn names second one.1 two
      (All-tail (λ name. All (λ other. is_later name.child name.rank other ≡ true) second) name names all),
)

abbrev IsFrom : ℕ → ℕ → ChildName → Type 0
IsFrom child rank name = (name.child ≡ child) × (rank ≤ name.rank)

ranked_from : (parent child rank : ℕ) (names : List (List ℕ)) → All (IsFrom child rank) (ranked parent child rank names)
ranked_from parent child rank [] = All-nil (IsFrom child rank)
ranked_from parent child rank (name ∷ names) =
    All-cons (IsFrom child rank) (record { parent = parent; name = name; child = child; rank = rank })
    (ranked parent child (rank + 1) names) (refl, omega arith)
    (All-weaker (IsFrom child (rank + 1)) (IsFrom child rank) (λ n is. (is.0, let low = is.1 in omega arith))
    (ranked parent child (rank + 1) names) (ranked_from parent child (rank + 1) names))

ranked_in_turn : (parent child rank : ℕ) (names : List (List ℕ)) → AreInTurn (ranked parent child rank names)
ranked_in_turn parent child rank [] = tt
ranked_in_turn parent child rank (name ∷ names) = (
  All-weaker (IsFrom child (rank + 1)) (λ other. is_later child rank other ≡ true)
      (λ n is. later_rank child rank n (sym is.0) (let low = is.1 in omega arith))
      (ranked parent child (rank + 1) names) (ranked_from parent child (rank + 1) names),
  ranked_in_turn parent child (rank + 1) names,
)

from_number : (at : ℕ) (scopes : List Scope)
    → All (λ (name : ChildName). at ≤ name.child) (flat_map child_names_of (numbered at scopes))
from_number at [] = All-nil (λ (name : ChildName). at ≤ name.child)
from_number at (scope ∷ scopes) =
    All-append (λ (name : ChildName). at ≤ name.child) (child_names_of (scope, at)) (flat_map child_names_of (numbered (at + 1) scopes))
    (All-weaker (IsFrom at 0) (λ (name : ChildName). at ≤ name.child) (λ n is. let same = is.0 in omega arith)
    (child_names_of (scope, at)) (ranked_from scope.parent at 0 scope.names))
    (All-weaker (λ (name : ChildName). at + 1 ≤ name.child) (λ (name : ChildName). at ≤ name.child)
    (λ n is. omega arith) (flat_map child_names_of (numbered (at + 1) scopes)) (from_number (at + 1) scopes))

in_turn_from : (at : ℕ) (scopes : List Scope) → AreInTurn (flat_map child_names_of (numbered at scopes))
in_turn_from at [] = tt
in_turn_from at (scope ∷ scopes) =
    both_in_turn (child_names_of (scope, at)) (flat_map child_names_of (numbered (at + 1) scopes))
    (ranked_in_turn scope.parent at 0 scope.names) (in_turn_from (at + 1) scopes)
    (All-weaker (IsFrom at 0)
    (λ name. All (λ other. is_later name.child name.rank other ≡ true)
    (flat_map child_names_of (numbered (at + 1) scopes)))
    (λ name is. All-weaker (λ (other : ChildName). at + 1 ≤ other.child)
    (λ other. is_later name.child name.rank other ≡ true)
    (λ other low. later_scope name.child name.rank other (let same = is.0 in omega arith))
    (flat_map child_names_of (numbered (at + 1) scopes)) (from_number (at + 1) scopes))
    (child_names_of (scope, at)) (ranked_from scope.parent at 0 scope.names))

pub all_in_turn : (scopes : List Scope) → AreInTurn (all_names scopes)
all_in_turn scopes = in_turn_from 0 scopes
