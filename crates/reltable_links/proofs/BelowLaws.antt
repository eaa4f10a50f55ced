-- Lists in the order of places, and what stands below cells in them.
use Rattle.std.specs.Prelude.{◌≡◌, ◌+◌, ◌<◌, ◌≤◌, ◌&&◌, ◌||◌, ℕ, zero, suc, Bool, true, false, not, List, [], ◌∷◌, ◌++◌, Option, Some, None, drop, filter, length, max, nat_lt, take}
use Rattle.std.specs.List.{filter_map}
use Rattle.std.specs.List.Sorted.{IsNonDecreasingBy, IsPartitionPoint, IsPartitionedBy}
use Rattle.std.proofs.Common.{refl, sym, ap, ◌∙◌, arith, get_or}
use Rattle.std.proofs.lemmas.Bool.{and_from, and_right as and_none, lt-ltb, not-false, not-true}
use Rattle.std.proofs.lemmas.Bool.Decides.{nat_tests}
use Rattle.std.proofs.lemmas.Map.Keys.{any_passes_from_place}
use Rattle.std.proofs.lemmas.Option.{get_or_from_slice_get}
use Rattle.dita_doc.specs.declared.plan.PlanNode.{PlanNode}
use Rattle.dita_doc.proofs.Tests.{first_holds, less_before, second_holds}
use Rattle.map_spec.specs.Scopes.{places_from}
use Rattle.reltable_links.specs.Below.{ends_behind_one, is_behind, is_below_one, is_new, new_below}
use Rattle.reltable_links.specs.CellTable.{contains}
use Rattle.reltable_links.specs.declared.cells.RowCell.{RowCell}
use Rattle.reltable_links.proofs.CellLaws.{less_is}
use Rattle.reltable_links.proofs.ListLaws.{any_where, take_is}
use Rattle.reltable_links.proofs.LoopLaws.{any_next}

-- Each element stands at or behind the one before it

abbrev pub AreFromBy : {X : Type 0} → (X → ℕ) → ℕ → List X → Type 0
AreFromBy place from [] = Unit {0}
AreFromBy place from (x ∷ xs) = (from ≤ place x) × AreFromBy place (place x) xs

from_least : {X : Type 0} (place : X → ℕ) (from : ℕ) (xs : List X) → AreFromBy place from xs
    → (k : ℕ) (d : X) → k < length xs → from ≤ place (get_or xs k d)
from_least place from [] are k d within = absurd (omega (arith, within))
from_least place from (x ∷ xs) are zero d within = are.0
from_least place from (x ∷ xs) are (suc k) d within =
    let behind = from_least place (place x) xs are.1 k d (omega (arith, within)) in omega (arith, are.0, behind)

pub in_order : {X : Type 0} (place : X → ℕ) (from : ℕ) (xs : List X) → AreFromBy place from xs
    → IsNonDecreasingBy place xs
in_order place from [] are = λ i j d low within. absurd (omega (arith, within))
in_order {X} place from (x ∷ xs) are = by_places (in_order place (place x) xs are.1)
  where
    by_places : IsNonDecreasingBy place xs → (i j : ℕ) (d : X) → i ≤ j → j < length (x ∷ xs)
        → place (get_or (x ∷ xs) i d) ≤ place (get_or (x ∷ xs) j d)
    by_places behind zero zero d low within = omega arith
    by_places behind zero (suc j) d low within = from_least place (place x) xs are.1 j d (omega (arith, within))
    by_places behind (suc i) zero d low within = absurd (omega (arith, low))
    by_places behind (suc i) (suc j) d low within = behind i j d (omega (arith, low)) (omega (arith, within))

order_from : {X : Type 0} (place : X → ℕ) (from : ℕ) (xs : List X)
    → ((k : ℕ) (d : X) → k < length xs → from ≤ place (get_or xs k d)) → IsNonDecreasingBy place xs
    → AreFromBy place from xs
order_from place from [] least order = tt
order_from place from (x ∷ xs) least order = (
  least 0 x (omega arith),
  order_from place (place x) xs
      (λ k d within. order 0 (suc k) d (omega arith) (omega (arith, within)))
      (λ i j d low within. order (suc i) (suc j) d (omega (arith, low)) (omega (arith, within))),
)

pub from_start : {X : Type 0} (place : X → ℕ) (xs : List X) → IsNonDecreasingBy place xs → AreFromBy place 0 xs
from_start place xs order = order_from place 0 xs (λ k d within. omega arith) order

-- what is found at places stands in their order
pub found_from : {Y : Type 0} (f : ℕ → Option Y) (place : Y → ℕ)
    → ((at : ℕ) (y : Y) → f at ≡ Some y → place y ≡ at) → (from : ℕ) (nodes : List PlanNode) (least : ℕ)
    → least ≤ from → AreFromBy place least (filter_map f (places_from from nodes))
found_from f place each from [] least low = tt
found_from {Y} f place each from (node ∷ nodes) least low =
    by_found (f from) refl (λ lower less. found_from f place each (from + 1) nodes lower less)
  where
    by_found : (found : Option Y) → f from ≡ found
        → ((lower : ℕ) → lower ≤ from + 1 → AreFromBy place lower (filter_map f (places_from (from + 1) nodes)))
        → AreFromBy place least (filter_map f (places_from from (node ∷ nodes)))
    by_found None e behind = rw e (behind least (omega (arith, low)))
    by_found (Some y) e behind =
        let same = each from y e in
        rw e (omega (arith, low, same), behind (place y) (omega (arith, same)))

pub kept_from : (q : ℕ → Bool) (from : ℕ) (nodes : List PlanNode) (least : ℕ) → least ≤ from
    → AreFromBy (λ at. at) least (filter q (places_from from nodes))
kept_from q from [] least low = tt
kept_from q from (node ∷ nodes) least low =
    by_test (q from) refl (λ lower less. kept_from q (from + 1) nodes lower less)
  where
    by_test : (b : Bool) → q from ≡ b
        → ((lower : ℕ) → lower ≤ from + 1 → AreFromBy (λ at. at) lower (filter q (places_from (from + 1) nodes)))
        → AreFromBy (λ at. at) least (filter q (places_from from (node ∷ nodes)))
    by_test false e behind = rw e (behind least (omega (arith, low)))
    by_test true e behind = rw e (low, behind from (omega arith))

-- What passes two tests is cut out, where one parts the list in two, and the other the rest

module _ {X : Type 0} (p q : X → Bool) where
  abbrev both : X → Bool
  both x = p x && q x

  front_cut : (xs : List X) (at : ℕ) → ((k : ℕ) (d : X) → 0 ≤ k → k < at → not (p (get_or xs k d)) ≡ true)
      → filter both xs ≡ filter both (drop at xs)
  front_cut [] zero before = refl
  front_cut [] (suc at) before = refl
  front_cut (x ∷ xs) zero before = refl
  front_cut (x ∷ xs) (suc at) before =
      rw (not-true (p x) (before 0 x (omega arith) (omega arith)))
      (front_cut xs at (λ k d low high. before (suc k) d (omega arith) (omega arith)))

  none_kept : (xs : List X) → ((k : ℕ) (d : X) → 0 ≤ k → k < length xs → q (get_or xs k d) ≡ false)
      → [] ≡ filter both xs
  none_kept [] out = refl
  none_kept (x ∷ xs) out =
      rw (and_none (p x) (q x) (out 0 x (omega arith) (omega arith)))
      (none_kept xs (λ k d low high. out (suc k) d (omega arith) (omega arith)))

  front_kept : (xs : List X) (at : ℕ)
      → ((k : ℕ) (d : X) → 0 ≤ k → k < length xs → not (p (get_or xs k d)) ≡ false)
      → ((k : ℕ) (d : X) → 0 ≤ k → k < at → q (get_or xs k d) ≡ true)
      → ((k : ℕ) (d : X) → at ≤ k → k < length xs → q (get_or xs k d) ≡ false)
      → take at xs ≡ filter both xs
  front_kept [] zero all within out = refl
  front_kept [] (suc at) all within out = refl
  front_kept (x ∷ xs) zero all within out = none_kept (x ∷ xs) out
  front_kept (x ∷ xs) (suc at) all within out =
      rw (and_from (p x) (q x) (not-false (p x) (all 0 x (omega arith) (omega arith)))
      (within 0 x (omega arith) (omega arith)))
      (ap (λ more. x ∷ more) (front_kept xs at (λ k d low high. all (suc k) d (omega arith) (omega arith))
      (λ k d low high. within (suc k) d (omega arith) (omega arith))
      (λ k d low high. out (suc k) d (omega arith) (omega arith))))

  rest_all : (xs : List X) (at : ℕ)
      → IsPartitionPoint (λ x. not (p x) ≡ true) (λ x. not (p x) ≡ false) xs at
      → (k : ℕ) (d : X) → 0 ≤ k → k < length (drop at xs) → not (p (get_or (drop at xs) k d)) ≡ false
  rest_all [] zero part k d low high = absurd (omega (arith, high))
  rest_all [] (suc at) part k d low high = absurd (omega (arith, high))
  rest_all (x ∷ xs) zero part k d low high = part.1 k d low high
  rest_all (x ∷ xs) (suc at) part k d low high =
      rest_all xs at (
        λ i e less more. part.0 (suc i) e (omega arith) (omega arith),
        λ i e less more. part.1 (suc i) e (omega arith) (omega arith),
      ) k d low high

  pub cut : (xs : List X) (first count : ℕ)
      → IsPartitionPoint (λ x. not (p x) ≡ true) (λ x. not (p x) ≡ false) xs first
      → IsPartitionPoint (λ x. q x ≡ true) (λ x. q x ≡ false) (drop first xs) count
      → take count (drop first xs) ≡ filter both xs
  cut xs first count before within =
      front_kept (drop first xs) count (rest_all xs first before) within.0 within.1 ∙ sym (front_cut xs first before.0)

behind_back : (at done i j : ℕ) → i ≤ j → not (nat_lt at j && not (nat_lt j done)) ≡ true
    → not (nat_lt at i && not (nat_lt i done)) ≡ true
behind_back at done i j less is = grind (arith, nat_tests)

module _ {X : Type 0} (place : X → ℕ) (xs : List X) (order : IsNonDecreasingBy place xs) where
  pub behind_parted : (cell : RowCell) (done : ℕ) → IsPartitionedBy (λ x. not (is_behind cell done (place x))) xs
  behind_parted cell done = λ i j d low within is.
      behind_back cell.at done (place (get_or xs i d)) (place (get_or xs j d)) (order i j d low within) is

  pub within_parted : (end : ℕ) → IsPartitionedBy (λ x. nat_lt (place x) end) xs
  within_parted end = λ i j d low within is.
      less_before end (place (get_or xs i d)) (place (get_or xs j d)) (order i j d low within) is

-- What is below a bound stands before what is not

module _ {X : Type 0} (place : X → ℕ) (p q r : X → Bool) (bound : ℕ)
    (low : (x : X) → p x ≡ true → place x < bound) (high : (x : X) → q x ≡ true → bound ≤ place x)
    (each : (x : X) → r x ≡ (p x || q x)) where
  none_low : (from : ℕ) (xs : List X) → bound ≤ from → AreFromBy place from xs → filter p xs ≡ []
  none_low from [] less are = refl
  none_low from (x ∷ xs) less are = by_test (p x) refl (none_low (place x) xs (omega (arith, less, are.0)) are.1)
    where
      by_test : (b : Bool) → p x ≡ b → filter p xs ≡ [] → filter p (x ∷ xs) ≡ []
      by_test false e behind = rw e behind
      by_test true e behind = let near = low x e in absurd (omega (arith, near, less, are.0))

  pub parted : (from : ℕ) (xs : List X) → AreFromBy place from xs → filter r xs ≡ filter p xs ++ filter q xs
  parted from [] are = refl
  parted from (x ∷ xs) are = by_tests (p x) (q x) refl refl (parted (place x) xs are.1)
    where
      by_tests : (a b : Bool) → p x ≡ a → q x ≡ b → filter r xs ≡ filter p xs ++ filter q xs
          → filter r (x ∷ xs) ≡ filter p (x ∷ xs) ++ filter q (x ∷ xs)
      by_tests true true e f behind =
          let near = low x e in let far = high x f in absurd (omega (arith, near, far))
      by_tests true false e f behind =
          let g : r x ≡ true = each x ∙ (λ i. e i || f i) in
          rw (e, f, g) (ap (λ l. x ∷ l) behind)
      by_tests false true e f behind =
          let g : r x ≡ true = each x ∙ (λ i. e i || f i) in
          let none : filter p xs ≡ [] = none_low (place x) xs (high x f) are.1 in
          rw (e, f, g) (ap (λ l. x ∷ l) (behind ∙ ap (λ l. l ++ filter q xs) none)
          ∙ sym (ap (λ l. l ++ x ∷ filter q xs) none))
      by_tests false false e f behind =
          let g : r x ≡ false = each x ∙ (λ i. e i || f i) in
          rw (e, f, g) behind

-- Nothing stands below no cell

pub none_before : (at : ℕ) → nat_lt at 0 ≡ false
none_before at = grind (arith, nat_tests)

-- What stands below one cell more

both_ends : (k one other : ℕ) → nat_lt k (max one other) ≡ (nat_lt k one || nat_lt k other)
both_ends k one other = grind (arith, nat_tests)

not_before : (at done : ℕ) → not (nat_lt at done) ≡ true → done ≤ at
not_before at done is = grind (arith, nat_tests)

module _ (cells : List RowCell) (index : ℕ) (d : RowCell) (done : ℕ) (within : index < length cells)
    (ends : (at : ℕ) → nat_lt at done ≡ ends_behind_one (take index cells) at) where
  abbrev so_far : List RowCell
  so_far = take index cells

  abbrev cell : RowCell
  cell = get_or cells index d

  pub done_more : (k : ℕ) → nat_lt k (max done cell.end) ≡ ends_behind_one (take (index + 1) cells) k
  done_more k =
      both_ends k done cell.end ∙ ap (λ b. b || nat_lt k cell.end) (ends k)
      ∙ sym (any_next (λ (c : RowCell). nat_lt k c.end) cells index d within)

  module _ (order : IsNonDecreasingBy (λ (c : RowCell). c.at) cells) where
    -- what stands below it, and before where one of those before it ends, stands below that one
    earlier : (at : ℕ) → nat_lt at done ≡ true → nat_lt cell.at at ≡ true → is_below_one so_far at ≡ true
    earlier at before behind =
        let here = any_where (λ (c : RowCell). nat_lt at c.end) so_far (sym (ends at) ∙ before) in
        let taken = take_is index here.at cells here.item here.is in
        let same = get_or_from_slice_get cells here.at here.item d taken.1 in
        let least = order here.at index d (let near = taken.0 in omega (arith, near)) within in
        let starts = ap (λ (c : RowCell). c.at) same in
        let far = less_is cell.at at behind in
        any_passes_from_place (contains at) so_far here.at here.item here.is
        (and_from (nat_lt here.item.at at) (nat_lt at here.item.end)
        (lt-ltb here.item.at at (omega (arith, least, starts, far))) here.holds)

    one_more : (at : ℕ) → (is_below_one so_far at || contains at cell)
        ≡ (is_below_one so_far at || is_new cell done at)
    one_more at = by_tests (is_below_one so_far at) (nat_lt cell.at at) (nat_lt at done) (nat_lt at cell.end)
        (λ before behind. earlier at before behind)
      where
        by_tests : (a b c e : Bool) → (c ≡ true → b ≡ true → a ≡ true)
            → (a || (b && e)) ≡ (a || ((b && not c) && e))
        by_tests true b c e near = refl
        by_tests false false c e near = refl
        by_tests false true false e near = refl
        by_tests false true true e near = let none : false ≡ true = near refl refl in cc

    ended : (at : ℕ) → is_below_one so_far at ≡ true → at < done
    ended at is =
        let here = any_where (contains at) so_far is in
        less_is at done (ends at ∙ any_passes_from_place
        (λ (c : RowCell). nat_lt at c.end) so_far here.at here.item here.is
        (second_holds (nat_lt here.item.at at) (nat_lt at here.item.end) here.holds))

    begun : (at : ℕ) → is_new cell done at ≡ true → done ≤ at
    begun at is = not_before at done (second_holds (nat_lt cell.at at) (not (nat_lt at done))
        (first_holds (is_behind cell done at) (nat_lt at cell.end) is))

    pub below_more : {X : Type 0} (place : X → ℕ) (xs : List X) → IsNonDecreasingBy place xs
        → filter (λ x. is_below_one (take (index + 1) cells) (place x)) xs
        ≡ filter (λ x. is_below_one so_far (place x)) xs ++ new_below place cell done xs
    below_more place xs rising =
        parted place (λ x. is_below_one so_far (place x)) (λ x. is_new cell done (place x))
        (λ x. is_below_one (take (index + 1) cells) (place x)) done
        (λ x is. ended (place x) is) (λ x is. begun (place x) is)
        (λ x. any_next (contains (place x)) cells index d within ∙ one_more (place x)) 0 xs (from_start place xs rising)
