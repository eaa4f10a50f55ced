-- Stored documents: the place of a name among them, and what an edit at that place leaves.
use Rattle.std.proofs.Common.{◌≡◌, ℕ, zero, suc, ◌+◌, ◌<◌, ◌≤◌, List, [], ◌∷◌, ◌++◌, Result, Ok, Err, IfOk, IfErr, Some, None, refl, length, map, get_or, take, drop, set, sym, ap, ◌∙◌, subst, arith, cond, not, true, length-append, append_assoc}
use Rattle.std.specs.List.{insert, remove, AllWithin, AllZip}
use Rattle.std.specs.List.Sorted.{IsSearchInRange, IsBinarySearchResult, IsNonDecreasingBy, IsSortedBy}
use Rattle.std.specs.Ordering.{nat_cmp, ordering_index, is_lt}
use Rattle.std.specs.Cmp.Lexicographic.{slice_cmp}
use Rattle.std.specs.declared.cmp.Ordering.TheVariants.{Less, Equal, Greater}
use Rattle.std.proofs.lemmas.Cmp.{nat_list_cmp_total}
use Rattle.std.proofs.lemmas.List.{map-append, take-map, drop-map, take-append-drop, length-take-le, get_or-map, get_or_at, set_at, take_at, drop_at, map-set, drop_more, length-map, get_or_default}
use Rattle.std.proofs.lemmas.List.Sorted.{searchable_from_sorted}
use Rattle.dita_doc.specs.Desk.{Stored, State, IsBelowAll, IsSortedByName, is_named, stored_under, with_stored, without_name}
use Rattle.dita_doc.specs.Sources.{AreBelow, IsAt, IsGapFor, IsBlock, block_limit}
use Rattle.dita_doc.proofs.NameOrder.{above_from_below, below_from_above, same_from_equal, found_behind, found_above, without_behind, without_above, with_order, with_behind, with_above, with_same, below_sorted, sorted_back, sorted_with, named_itself}

add-suc_one : (k : ℕ) → suc k + 1 ≡ suc (k + 1)
add-suc_one k = omega arith

module _ {X : Type 0} (seen : X → Stored) where
  -- names that rise are not seen to fall from one place to the next
  rises : (xs : List X) → IsSortedByName (map seen xs)
      → IsSortedBy (λ a b. is_lt (slice_cmp nat_cmp (seen a).name (seen b).name)) xs
  rises [] sorted k d low high = absurd (omega arith)
  rises (x ∷ []) sorted k d low high = absurd (omega arith)
  rises (x ∷ y ∷ xs) sorted zero d low high = ap is_lt (above_from_below (seen x).name (seen y).name sorted.0.0)
  rises (x ∷ y ∷ xs) sorted (suc k) d low high = let h = rises (y ∷ xs) sorted.1 k d (omega arith) (omega arith)
      in rw (add-suc_one k) h

  -- as a search by halving asks
  pub searchable : (xs : List X) (name : List ℕ) → IsSortedByName (map seen xs)
      → IsNonDecreasingBy (λ x. ordering_index (slice_cmp nat_cmp (seen x).name name)) xs
  searchable xs name sorted = searchable_from_sorted nat_list_cmp_total (λ x. (seen x).name) xs name (rises xs sorted)

  lower_part : (xs : List X) (name : List ℕ) (at : ℕ) → at ≤ length xs
      → ((k : ℕ) (d : X) → k < at → slice_cmp nat_cmp (seen (get_or xs k d)).name name ≡ Less)
      → AreBelow (map seen (take at xs)) name
  lower_part xs name zero within less = tt
  lower_part [] name (suc at) within less = tt
  lower_part (x ∷ xs) name (suc at) within less =
      (less 0 x (omega arith), lower_part xs name at (omega arith) (λ k d below. less (suc k) d (omega arith)))

  all_higher : (xs : List X) (name : List ℕ)
      → ((k : ℕ) (d : X) → k < length xs → slice_cmp nat_cmp (seen (get_or xs k d)).name name ≡ Greater)
      → IsBelowAll name (map seen xs)
  all_higher [] name greater = tt
  all_higher (x ∷ xs) name greater = (
    below_from_above (seen x).name name (greater 0 x (omega arith)),
    all_higher xs name (λ k d below. greater (suc k) d (omega arith)),
  )

  higher_part : (xs : List X) (name : List ℕ) (at : ℕ)
      → ((k : ℕ) (d : X) → at ≤ k → k < length xs → slice_cmp nat_cmp (seen (get_or xs k d)).name name ≡ Greater)
      → IsBelowAll name (map seen (drop at xs))
  higher_part xs name zero greater = all_higher xs name (λ k d below. greater k d (omega arith) below)
  higher_part [] name (suc at) greater = tt
  higher_part (x ∷ xs) name (suc at) greater =
      higher_part xs name at (λ k d from below. greater (suc k) d (omega arith) (omega arith))

  cut : (xs : List X) (at : ℕ) → map seen xs ≡ map seen (take at xs) ++ map seen (drop at xs)
  cut xs at = ap (map seen) (sym (take-append-drop at xs)) ∙ map-append seen (take at xs) (drop at xs)

  length_front : (xs : List X) (at : ℕ) → at ≤ length xs → length (map seen (take at xs)) ≡ at
  length_front xs at within = length-map (take at xs) seen ∙ length-take-le at xs within

  gap : (xs : List X) (name : List ℕ) (at : ℕ) → at ≤ length xs
      → AllWithin (λ x. slice_cmp nat_cmp (seen x).name name ≡ Less) xs 0 at
      → AllWithin (λ x. slice_cmp nat_cmp (seen x).name name ≡ Greater) xs at (length xs)
      → IsGapFor (map seen xs) name at
  gap xs name at within less greater = record {
    front = map seen (take at xs);
    back = map seen (drop at xs);
    whole = cut xs at;
    place = length_front xs at within;
    below = lower_part xs name at within (λ k d lt. less k d (omega arith) lt);
    above = higher_part xs name at greater;
  }

  here : (xs : List X) (name : List ℕ) (at : ℕ) (x : X) → at < length xs → x ≡ get_or xs at x
      → slice_cmp nat_cmp (seen x).name name ≡ Equal → IsSortedByName (map seen xs) → IsAt (map seen xs) name at
  here xs name at x within is equal sorted =
      let front = map seen (take at xs) in
      let back = map seen (drop (at + 1) xs) in
      let e : map seen xs ≡ front ++ seen x ∷ back = cut xs at
      ∙ ap (λ rest. front ++ map seen rest) (drop_more xs at x within) ∙ ap (λ y. front ++ seen y ∷ back) (sym is)
      in
      let named = same_from_equal (seen x).name name equal in
      let parts : IsSortedByName (front ++ seen x ∷ back) = subst IsSortedByName e sorted in
      record {
        front = front;
        stored = seen x;
        back = back;
        whole = e;
        place = length_front xs at (omega arith);
        below = subst (AreBelow front) named (below_sorted front (seen x) back parts);
        same = named;
        above = subst (λ n. IsBelowAll n back) named (sorted_back front (seen x ∷ back) parts).0;
      }

  -- a search by halving ends at the name, or at the gap for it
  pub searched : (xs : List X) (name : List ℕ) (r : Result ℕ ℕ) → IsSortedByName (map seen xs)
      → IsSearchInRange r (length xs) → IsBinarySearchResult (λ x. slice_cmp nat_cmp (seen x).name name) xs r
      → record { found : IfOk r (IsAt (map seen xs) name); absent : IfErr r (IsGapFor (map seen xs) name) }
  searched xs name (Err at) sorted within parted = let parts = parted (searchable xs name sorted)
      in record { found = tt; absent = gap xs name at within parts.0 parts.1 }
  searched [] name (Ok at) sorted within equal = absurd (omega arith)
  searched (x ∷ xs) name (Ok at) sorted within equal =
      record {
        found = here (x ∷ xs) name at (get_or (x ∷ xs) at x) within
            (get_or_default (x ∷ xs) at x (get_or (x ∷ xs) at x) within) (equal x) sorted;
        absent = tt;
      }

-- what an edit of documents at a place leaves
map-insert : {X : Type 0} (seen : X → Stored) (xs : List X) (at : ℕ) (x : X)
    → map seen (insert xs at x) ≡ insert (map seen xs) at (seen x)
map-insert seen xs at x = map-append seen (take at xs) (x ∷ drop at xs)
    ∙ ap (λ front. front ++ seen x ∷ map seen (drop at xs)) (sym (take-map seen at xs))
    ∙ ap (λ back. take at (map seen xs) ++ seen x ∷ back) (sym (drop-map seen at xs))

map-remove : {X : Type 0} (seen : X → Stored) (xs : List X) (at : ℕ) → map seen (remove xs at) ≡ remove (map seen xs) at
map-remove seen xs at = map-append seen (take at xs) (drop (suc at) xs)
    ∙ ap (λ front. front ++ map seen (drop (suc at) xs)) (sym (take-map seen at xs))
    ∙ ap (λ back. take at (map seen xs) ++ back) (sym (drop-map seen (suc at) xs))

pub found_at : (state : State) (name : List ℕ) (at : ℕ) (here : IsAt state name at)
    → stored_under state name ≡ Some here.stored
found_at state name at here =
    ap (λ all. stored_under all name) here.whole
    ∙ found_behind here.front (here.stored ∷ here.back) name here.below
    ∙ subst (λ n. stored_under (here.stored ∷ here.back) n ≡ Some here.stored) here.same
    (ap (λ b. cond b (Some here.stored) (stored_under here.back here.stored.name)) (named_itself here.stored))

pub place_within : (state : State) (name : List ℕ) (at : ℕ) → IsAt state name at → at < length state
place_within state name at here = rw here.whole
    (omega (arith, length-append here.front (here.stored ∷ here.back), here.place))

pub found_read : {X : Type 0} (seen : X → Stored) (xs : List X) (state : State) (name : List ℕ) (at : ℕ) (x : X)
    → map seen xs ≡ state → IsAt state name at → x ≡ get_or xs at x → stored_under state name ≡ Some (seen x)
found_read seen xs state name at x view here is =
    let within : at < length xs = omega (arith, place_within state name at here, ap length view, length-map xs seen) in
    found_at state name at here
    ∙ ap Some (sym (ap (λ all. get_or all at (seen x)) here.whole
    ∙ get_or_at here.front here.stored here.back (seen x) at here.place))
    ∙ ap (λ all. Some (get_or all at (seen x))) (sym view)
    ∙ ap Some (get_or-map seen xs at x (seen x) within ∙ ap seen (sym is))

pub found_in_gap : (state : State) (name : List ℕ) (at : ℕ) → IsGapFor state name at → stored_under state name ≡ None
found_in_gap state name at gap = ap (λ all. stored_under all name) gap.whole
    ∙ found_behind gap.front gap.back name gap.below
    ∙ found_above gap.back name gap.above

-- written over
set_is : (state : State) (new : Stored) (at : ℕ) → IsAt state new.name at → set state at new ≡ with_stored new state
set_is state new at here =
    ap (λ all. set all at new) here.whole
    ∙ set_at here.front here.stored here.back new at here.place
    ∙ ap (λ rest. here.front ++ rest) (sym (with_same here.stored here.back new here.same))
    ∙ sym (with_behind here.front (here.stored ∷ here.back) new here.below)
    ∙ ap (with_stored new) (sym here.whole)

-- put in the gap
insert_is : (state : State) (new : Stored) (at : ℕ) → IsGapFor state new.name at
    → insert state at new ≡ with_stored new state
insert_is state new at gap =
    ap (λ all. take at all ++ new ∷ drop at all) gap.whole
    ∙ ap (λ front. front ++ new ∷ drop at (gap.front ++ gap.back)) (take_at gap.front gap.back at gap.place)
    ∙ ap (λ back. gap.front ++ new ∷ back) (drop_at gap.front gap.back at gap.place)
    ∙ ap (λ rest. gap.front ++ rest) (sym (with_above gap.back new gap.above))
    ∙ sym (with_behind gap.front gap.back new gap.below)
    ∙ ap (with_stored new) (sym gap.whole)

-- taken away
remove_is : (state : State) (name : List ℕ) (at : ℕ) → IsAt state name at → remove state at ≡ without_name name state
remove_is state name at here =
    let all = here.front ++ here.stored ∷ here.back in
    ap (λ all. take at all ++ drop (suc at) all) here.whole
    ∙ ap (λ front. front ++ drop (suc at) all) (take_at here.front (here.stored ∷ here.back) at here.place)
    ∙ ap (λ back. here.front ++ back) (drop_behind here.front here.stored here.back at here.place)
    ∙ ap (λ rest. here.front ++ rest) (sym (without_here here.stored here.back name here.same here.above))
    ∙ sym (without_behind here.front (here.stored ∷ here.back) name here.below)
    ∙ ap (without_name name) (sym here.whole)
  where
    drop_behind : (front : State) (stored : Stored) (back : State) (at : ℕ) → length front ≡ at
        → drop (suc at) (front ++ stored ∷ back) ≡ back
    drop_behind front stored back at place =
        ap (λ all. drop (suc at) all) (sym (append_assoc front (stored ∷ []) back))
        ∙ drop_at (front ++ stored ∷ []) back (suc at) (omega (arith, length-append front (stored ∷ []), place))

    without_here : (stored : Stored) (back : State) (name : List ℕ) → stored.name ≡ name → IsBelowAll name back
        → without_name name (stored ∷ back) ≡ back
    without_here stored back name same above =
        ap (λ b. cond (not b) (stored ∷ without_name name back) (without_name name back))
        (subst (λ n. is_named n stored ≡ true) same (named_itself stored)) ∙ without_above back name above

-- the same of what is seen of documents
module _ {X : Type 0} (seen : X → Stored) (xs : List X) (state : State) (view : map seen xs ≡ state) where
  pub put_over : (new : X) (at : ℕ) → IsAt state (seen new).name at
      → map seen (set xs at new) ≡ with_stored (seen new) state
  put_over new at here = map-set seen xs at new ∙ ap (λ all. set all at (seen new)) view
      ∙ set_is state (seen new) at here

  pub put_in_gap : (ys : List X) (new : X) (at : ℕ) → IsGapFor state (seen new).name at → ys ≡ insert xs at new
      → map seen ys ≡ with_stored (seen new) state
  put_in_gap ys new at gap is = ap (map seen) is ∙ map-insert seen xs at new
      ∙ ap (λ all. insert all at (seen new)) view ∙ insert_is state (seen new) at gap

  pub taken_away : (ys : List X) (name : List ℕ) (at : ℕ) → IsAt state name at → ys ≡ remove xs at
      → map seen ys ≡ without_name name state
  taken_away ys name at here is = ap (map seen) is ∙ map-remove seen xs at ∙ ap (λ all. remove all at) view
      ∙ remove_is state name at here

-- copies are seen alike
pub copies_alike : {X : Type 0} (seen : X → Stored) (xs ys : List X) → AllZip (λ x y. seen y ≡ seen x) xs ys
    → map seen ys ≡ map seen xs
copies_alike seen [] [] same = refl
copies_alike seen [] (y ∷ ys) same = absurd same
copies_alike seen (x ∷ xs) [] same = absurd same
copies_alike seen (x ∷ xs) (y ∷ ys) same = ap (λ first. first ∷ map seen ys) same.0
    ∙ ap (λ rest. seen x ∷ rest) (copies_alike seen xs ys same.1)

pub copies_count : {X : Type 0} (seen : X → Stored) (xs ys : List X) → AllZip (λ x y. seen y ≡ seen x) xs ys
    → length ys ≡ length xs
copies_count seen xs ys same =
    sym (length-map ys seen) ∙ ap length (copies_alike seen xs ys same) ∙ length-map xs seen

-- a block, after an edit
pub block_with : (new : Stored) (state : State) → IsSortedByName state → length state < block_limit
    → IsBlock (with_stored new state)
block_with new state sorted room =
    let lengths = length_with new state in
    record { sorted = sorted_with new state sorted; some = lengths.0; few = omega arith }
  where
    length_with : (new : Stored) (state : State)
        → (0 < length (with_stored new state)) × (length (with_stored new state) ≤ length state + 1)
    length_with new [] = (omega arith, omega arith)
    length_with new (stored ∷ state) =
        let rest = length_with new state in
        elim (slice_cmp nat_cmp new.name stored.name) as
        (λ order. (0 < length (with_order new stored state order))
        × (length (with_order new stored state order) ≤ length (stored ∷ state) + 1)) [
          | Less ↦ (omega arith, omega arith)
          | Equal ↦ (omega arith, omega arith)
          | Greater ↦ (omega arith, omega arith)
        ]

-- the two parts of a list of documents
pub parts_of : {X : Type 0} (seen : X → Stored) (xs copy front back : List X) (at : ℕ) (state : State)
    → map seen xs ≡ state → AllZip (λ x y. seen y ≡ seen x) xs copy → front ≡ take at copy → back ≡ drop at copy
    → map seen front ++ map seen back ≡ state
parts_of seen xs copy front back at state view same is_front is_back =
    ap (λ all. map seen all ++ map seen back) is_front
    ∙ ap (λ all. map seen (take at copy) ++ map seen all) is_back
    ∙ sym (cut seen copy at) ∙ copies_alike seen xs copy same ∙ view

pub block_of_view : {X : Type 0} (seen : X → Stored) (xs : List X) (state : State) → map seen xs ≡ state
    → IsBlock (map seen xs) → IsBlock state
block_of_view seen xs state view block = subst IsBlock view block

sorted_front : (front back : State) → IsSortedByName (front ++ back) → IsSortedByName front
sorted_front [] back sorted = tt
sorted_front (stored ∷ front) back sorted =
    (below_all_front stored.name front back sorted.0, sorted_front front back sorted.1)
  where
    below_all_front : (name : List ℕ) (front back : State) → IsBelowAll name (front ++ back) → IsBelowAll name front
    below_all_front name [] back below = tt
    below_all_front name (stored ∷ front) back below = (below.0, below_all_front name front back below.1)

pub half_in_front : (front back state : State) → front ++ back ≡ state → IsBlock state → 0 < length front
    → IsBlock front
half_in_front front back state is block some = record {
  sorted = sorted_front front back (subst IsSortedByName (sym is) block.sorted);
  some = some;
  few = let few = block.few in omega (arith, ap length is, length-append front back);
}

pub half_behind : (front back state : State) → front ++ back ≡ state → IsBlock state → 0 < length back
    → IsBlock back
half_behind front back state is block some = record {
  sorted = sorted_back front back (subst IsSortedByName (sym is) block.sorted);
  some = some;
  few = let few = block.few in omega (arith, ap length is, length-append front back);
}
