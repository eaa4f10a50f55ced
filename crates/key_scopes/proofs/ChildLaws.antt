-- The names of scopes in their order: which stand together, and that sorted they are the scopes' own.
use Rattle.std.specs.Prelude.{◌≡◌, ◌+◌, ◌<◌, ◌≤◌, ◌==◌, ◌++◌, ℕ, zero, suc, Bool, true, false, List, [], ◌∷◌, bytes_eq, drop, length, take}
use Rattle.std.specs.Cmp.{IsTotalOrder}
use Rattle.std.specs.Cmp.Lexicographic.{slice_cmp}
use Rattle.std.specs.List.{All, flat_map}
use Rattle.std.specs.List.Sorted.{IsPartitionPoint, IsPartitionedBy, IsPermutation, IsSorted}
use Rattle.std.specs.Ordering.{is_eq, is_lt, nat_cmp, ordering_reverse, ordering_then}
use Rattle.std.proofs.Common.{Ordering, Less, Equal, Greater, refl, sym, ap, subst, ◌∙◌, arith, append_assoc, get_or, drop-cons}
use Rattle.std.proofs.Math.Seq.{take-suc}
use Rattle.std.proofs.lemmas.Bool.{and_from, eq-eqb, eqb-true, true≢false}
use Rattle.std.proofs.lemmas.Cmp.{nat_cmp_total, nat_list_cmp_total, on_total, ranked as number_ranked, then_total, tied_itself}
use Rattle.std.proofs.lemmas.List.{append-nil, drop_all, get_or-map, length-map}
use Rattle.std.proofs.lemmas.List.Elements.{All-append, All-cons, All-get_or, All-nil, All-push, All-weaker, filter_passes}
use Rattle.std.proofs.lemmas.List.Kept.{IsSortedBy-filter}
use Rattle.std.proofs.lemmas.List.Sorted.{All-permutation, IsPermutation-map, IsPermutation-sym, ranks_by, sorted_far}
use Rattle.dita_doc.proofs.NameOrder.{same_from_equal}
use Rattle.dita_doc.proofs.Orders.{equal_number, equal_test}
use Rattle.dita_doc.proofs.Tests.{equal_text, first_holds, same_text, second_holds}
use Rattle.dita_doc.specs.declared.plan.Scope.{Scope}
use Rattle.key_scopes.specs.declared.children.ChildName.{ChildName}
use Rattle.key_scopes.specs.Children.{AreChildNames, AreNotBelow, AreShort, WrittenName, all_names, is_below, is_named, is_same, name_cmp, name_of, those_named, child_names_of, names_written, own_cmp, ranked}
use Rattle.key_scopes.proofs.SortedLaws.{same_filtered, sorted_cons, sorted_same, sorted_tail}
use Rattle.key_scopes.proofs.StrictLaws.{first_part}
use Rattle.map_spec.specs.Scopes.{numbered}

-- The order

abbrev own_order : ChildName → ChildName → Ordering
own_order a b = own_cmp b.parent b.name a

abbrev place_cmp : ChildName → ChildName → Ordering
place_cmp a b = ordering_then (nat_cmp a.child b.child) (nat_cmp a.rank b.rank)

own_total : IsTotalOrder own_order
own_total = then_total (on_total (λ (own : ChildName). own.parent) nat_cmp_total)
    (on_total (λ (own : ChildName). own.name) nat_list_cmp_total)

place_total : IsTotalOrder place_cmp
place_total = then_total (on_total (λ (own : ChildName). own.child) nat_cmp_total)
    (on_total (λ (own : ChildName). own.rank) nat_cmp_total)

pub name_total : IsTotalOrder name_cmp
name_total = then_total (then_total own_total (on_total (λ (own : ChildName). own.child) nat_cmp_total))
    (on_total (λ (own : ChildName). own.rank) nat_cmp_total)

first_equal : (a b : Ordering) → ordering_then a b ≡ Equal → a ≡ Equal
first_equal Equal b e = refl
first_equal Less b e = cc
first_equal Greater b e = cc

then_equal : (a b : Ordering) → ordering_then a b ≡ Equal → b ≡ Equal
then_equal Equal b e = e
then_equal Less b e = cc
then_equal Greater b e = cc

pub name_tied : (a b : ChildName) → name_cmp a b ≡ Equal → a ≡ b
name_tied a b e =
    let three = first_equal (ordering_then (own_order a b) (nat_cmp a.child b.child)) (nat_cmp a.rank b.rank) e in
    let two = first_equal (own_order a b) (nat_cmp a.child b.child) three in
    let rank = equal_number a.rank b.rank (then_equal (ordering_then (own_order a b) (nat_cmp a.child b.child))
    (nat_cmp a.rank b.rank) e) in
    let child = equal_number a.child b.child (then_equal (own_order a b) (nat_cmp a.child b.child) three) in
    let parent = equal_number a.parent b.parent (first_equal (nat_cmp a.parent b.parent)
    (slice_cmp nat_cmp a.name b.name) two) in
    let name = same_from_equal a.name b.name (then_equal (nat_cmp a.parent b.parent)
    (slice_cmp nat_cmp a.name b.name) two) in
    rw (parent, name, child, rank) refl

-- a name within a parent, by the order and by the test

pub same_named : (parent : ℕ) (name : List ℕ) (own : ChildName) → is_same parent name own ≡ is_named parent name own
same_named parent name own = by_two (nat_cmp own.parent parent) (is_named parent name own) refl refl
  where
    equal : own_cmp parent name own ≡ Equal → is_named parent name own ≡ true
    equal e =
        let number = equal_number own.parent parent (first_equal (nat_cmp own.parent parent)
        (slice_cmp nat_cmp own.name name) e) in
        let text = same_from_equal own.name name (then_equal (nat_cmp own.parent parent)
        (slice_cmp nat_cmp own.name name) e) in
        and_from (own.parent == parent) (bytes_eq own.name name) (eq-eqb own.parent parent number)
        (equal_text own.name name text)

    back : is_named parent name own ≡ true → own_cmp parent name own ≡ Equal
    back e =
        let number = eqb-true own.parent parent (first_holds (own.parent == parent) (bytes_eq own.name name) e) in
        let text = same_text own.name name (second_holds (own.parent == parent) (bytes_eq own.name name) e) in
        rw (number, text, tied_itself nat_list_cmp_total name, tied_itself nat_cmp_total parent) refl

    by_two : (o : Ordering) (a : Bool) → nat_cmp own.parent parent ≡ o → is_named parent name own ≡ a
        → is_same parent name own ≡ is_named parent name own
    by_two o true e f = ap is_eq (back f) ∙ sym f
    by_two o false e f = by_order (own_cmp parent name own) refl
      where
        by_order : (r : Ordering) → own_cmp parent name own ≡ r → is_same parent name own ≡ is_named parent name own
        by_order Less g = ap is_eq g ∙ sym f
        by_order Greater g = ap is_eq g ∙ sym f
        by_order Equal g = ap is_eq g ∙ sym (equal g)

-- Sorted names: those of a name within a parent stand together

-- in a sorted list no later name stands before an earlier one
own_far : (names : List ChildName) → IsSorted name_cmp names → (i j : ℕ) (d : ChildName) → i ≤ j → j < length names
    → is_lt (own_order (get_or names j d) (get_or names i d)) ≡ false
own_far names sorted i j d low within =
    let a = get_or names j d in
    let b = get_or names i d in
    first_part (own_order a b) (nat_cmp a.child b.child) (nat_cmp a.rank b.rank)
    (sorted_far (λ a b. is_lt (name_cmp a b)) (ranks_by name_total (λ own. own)) names sorted i j d low within)

less_is : (o : Ordering) → is_lt o ≡ true → o ≡ Less
less_is Less e = refl
less_is Equal e = cc
less_is Greater e = cc

module _ (parent : ℕ) (name : List ℕ) where
  abbrev probe : ChildName
  probe = record { parent = parent; name = name; child = 0; rank = 0 }

  below_back : (a b : ChildName) → is_lt (own_order b a) ≡ false → is_below parent name b ≡ true
      → is_below parent name a ≡ true
  below_back a b far below = by_order (own_order b a) refl
    where
      less : own_order b probe ≡ Less
      less = less_is (own_order b probe) below

      by_order : (o : Ordering) → own_order b a ≡ o → is_below parent name a ≡ true
      by_order Less e = absurd (true≢false (sym (ap is_lt e) ∙ far))
      by_order Equal e = ap is_lt (sym (own_total.congr b a probe e) ∙ less)
      by_order Greater e = ap is_lt (own_total.trans a b probe (own_total.antisymm a b ∙ ap ordering_reverse e) less)

  pub below_parted : (names : List ChildName) → IsSorted name_cmp names
      → IsPartitionedBy (is_below parent name) names
  below_parted names sorted i j d low within below =
      below_back (get_or names i d) (get_or names j d) (own_far names sorted i j d low within) below

  same_back : (a b : ChildName) → is_lt (own_order b a) ≡ false → is_below parent name a ≡ false
      → is_same parent name b ≡ true → is_same parent name a ≡ true
  same_back a b far above same = by_order (own_order a probe) refl
    where
      by_order : (o : Ordering) → own_order a probe ≡ o → is_same parent name a ≡ true
      by_order Less e = absurd (true≢false (sym (ap is_lt e) ∙ above))
      by_order Equal e = ap is_eq e
      by_order Greater e =
          let before : own_order b a ≡ Less =
          own_total.congr b probe a (equal_test (own_order b probe) same)
          ∙ own_total.antisymm probe a ∙ ap ordering_reverse e in
          absurd (true≢false (sym (ap is_lt before) ∙ far))

  pub same_parted : (names : List ChildName) → IsSorted name_cmp names → AreNotBelow parent name names
      → IsPartitionedBy (is_same parent name) names
  same_parted names sorted above i j d low within same =
      same_back (get_or names i d) (get_or names j d) (own_far names sorted i j d low within)
      (above i d (omega arith)) same

  below_other : (own : ChildName) → is_below parent name own ≡ true → is_named parent name own ≡ false
  below_other own below =
      sym (same_named parent name own) ∙ ap is_eq (less_is (own_cmp parent name own) below)

  front_cut : (names : List ChildName) (at : ℕ)
      → ((k : ℕ) (d : ChildName) → 0 ≤ k → k < at → is_below parent name (get_or names k d) ≡ true)
      → those_named parent name names ≡ those_named parent name (drop at names)
  front_cut [] zero below = refl
  front_cut [] (suc at) below = refl
  front_cut (own ∷ names) zero below = refl
  front_cut (own ∷ names) (suc at) below =
      rw (below_other own (below 0 own (omega arith) (omega arith)))
      (front_cut names at (λ k d low high. below (suc k) d (omega arith) (omega arith)))

  none_kept : (names : List ChildName)
      → ((k : ℕ) (d : ChildName) → 0 ≤ k → k < length names → is_same parent name (get_or names k d) ≡ false)
      → [] ≡ those_named parent name names
  none_kept [] other = refl
  none_kept (own ∷ names) other =
      rw (sym (same_named parent name own) ∙ other 0 own (omega arith) (omega arith))
      (none_kept names (λ k d low high. other (suc k) d (omega arith) (omega arith)))

  front_kept : (names : List ChildName) (at : ℕ)
      → ((k : ℕ) (d : ChildName) → 0 ≤ k → k < at → is_same parent name (get_or names k d) ≡ true)
      → ((k : ℕ) (d : ChildName) → at ≤ k → k < length names → is_same parent name (get_or names k d) ≡ false)
      → take at names ≡ those_named parent name names
  front_kept [] zero same other = refl
  front_kept [] (suc at) same other = refl
  front_kept (own ∷ names) zero same other = none_kept (own ∷ names) other
  front_kept (own ∷ names) (suc at) same other =
      rw (sym (same_named parent name own) ∙ same 0 own (omega arith) (omega arith))
      (ap (λ more. own ∷ more) (front_kept names at (λ k d low high. same (suc k) d (omega arith) (omega arith))
      (λ k d low high. other (suc k) d (omega arith) (omega arith))))

  -- behind the names that are below none is
  pub not_below : (names : List ChildName) (at : ℕ)
      → IsPartitionPoint (λ own. is_below parent name own ≡ true) (λ own. is_below parent name own ≡ false) names at
      → AreNotBelow parent name (drop at names)
  not_below [] zero part = All-nil (λ own. is_below parent name own ≡ false)
  not_below [] (suc at) part = All-nil (λ own. is_below parent name own ≡ false)
  not_below (own ∷ names) zero part = λ k d within. part.1 k d (omega arith) within
  not_below (own ∷ names) (suc at) part =
      not_below names at (
        λ k d low high. part.0 (suc k) d (omega arith) (omega arith),
        λ k d low high. part.1 (suc k) d (omega arith) (omega arith),
      )

  pub cut_named : (names : List ChildName) (first count : ℕ)
      → IsPartitionPoint (λ own. is_below parent name own ≡ true) (λ own. is_below parent name own ≡ false) names first
      → IsPartitionPoint (λ own. is_same parent name own ≡ true) (λ own. is_same parent name own ≡ false)
      (drop first names) count
      → take count (drop first names) ≡ those_named parent name names
  cut_named names first count below same =
      front_kept (drop first names) count same.0 same.1 ∙ sym (front_cut names first below.0)

pub sorted_behind : (names : List ChildName) (at : ℕ) → IsSorted name_cmp names → IsSorted name_cmp (drop at names)
sorted_behind [] zero sorted = sorted
sorted_behind [] (suc at) sorted = sorted
sorted_behind (own ∷ names) zero sorted = sorted
sorted_behind (own ∷ names) (suc at) sorted = sorted_behind names at (sorted_tail name_cmp name_total own names sorted)

-- The names of all scopes stand in the order of scopes and ranks

scope_later : (own later : ChildName) → own.child < later.child → is_lt (place_cmp later own) ≡ false
scope_later own later less = by_order (nat_cmp later.child own.child) refl
  where
    by_order : (o : Ordering) → nat_cmp later.child own.child ≡ o → is_lt (place_cmp later own) ≡ false
    by_order Less e = let low = number_ranked later.child own.child Less (sym e) in absurd (omega (arith, low, less))
    by_order Equal e = let low = equal_number later.child own.child e in absurd (omega (arith, low, less))
    by_order Greater e = rw e refl

rank_later : (own later : ChildName) → later.child ≡ own.child → own.rank ≤ later.rank
    → is_lt (place_cmp later own) ≡ false
rank_later own later same less =
    ap (λ n. is_lt (ordering_then (nat_cmp n own.child) (nat_cmp later.rank own.rank))) same
    ∙ ap (λ o. is_lt (ordering_then o (nat_cmp later.rank own.rank))) (tied_itself nat_cmp_total own.child)
    ∙ by_order (nat_cmp later.rank own.rank) refl
  where
    by_order : (o : Ordering) → nat_cmp later.rank own.rank ≡ o → is_lt (nat_cmp later.rank own.rank) ≡ false
    by_order Less e = let low = number_ranked later.rank own.rank Less (sym e) in absurd (omega (arith, low, less))
    by_order Equal e = ap is_lt e
    by_order Greater e = ap is_lt e

abbrev IsRankedFrom : ℕ → ℕ → ChildName → Type 0
IsRankedFrom child low own = (own.child ≡ child) × (low ≤ own.rank)

ranked_from : (parent child rank low : ℕ) (names : List (List ℕ)) → low ≤ rank
    → All (IsRankedFrom child low) (ranked parent child rank names)
ranked_from parent child rank low [] less = All-nil (IsRankedFrom child low)
ranked_from parent child rank low (name ∷ names) less =
    All-cons (IsRankedFrom child low) (record { parent = parent; name = name; child = child; rank = rank })
    (ranked parent child (rank + 1) names) (refl, less) (ranked_from parent child (rank + 1) low names (omega arith))

children_from : (at : ℕ) (scopes : List Scope)
    → All (λ own. at ≤ own.child) (flat_map child_names_of (numbered at scopes))
children_from at [] = All-nil (λ own. at ≤ own.child)
children_from at (scope ∷ scopes) =
    All-append (λ own. at ≤ own.child) (child_names_of (scope, at)) (flat_map child_names_of (numbered (at + 1) scopes))
    (All-weaker (IsRankedFrom at 0) (λ own. at ≤ own.child) (λ own is. omega (arith, is.0))
    (child_names_of (scope, at)) (ranked_from scope.parent at 0 0 scope.names (omega arith)))
    (All-weaker (λ own. at + 1 ≤ own.child) (λ own. at ≤ own.child) (λ own low. omega (arith, low))
    (flat_map child_names_of (numbered (at + 1) scopes)) (children_from (at + 1) scopes))

ranked_sorted : (parent child rank : ℕ) (names : List (List ℕ)) (rest : List ChildName) → IsSorted place_cmp rest
    → All (λ own. child < own.child) rest → IsSorted place_cmp (ranked parent child rank names ++ rest)
ranked_sorted parent child rank [] rest sorted later = sorted
ranked_sorted parent child rank (name ∷ names) rest sorted later =
    let own : ChildName = record { parent = parent; name = name; child = child; rank = rank } in
    sorted_cons place_cmp place_total own (ranked parent child (rank + 1) names ++ rest)
    (All-append (λ other. is_lt (place_cmp other own) ≡ false) (ranked parent child (rank + 1) names) rest
    (All-weaker (IsRankedFrom child rank) (λ other. is_lt (place_cmp other own) ≡ false)
    (λ other is. rank_later own other is.0 is.1) (ranked parent child (rank + 1) names)
    (ranked_from parent child (rank + 1) rank names (omega arith)))
    (All-weaker (λ other. child < other.child) (λ other. is_lt (place_cmp other own) ≡ false)
    (λ other less. scope_later own other less) rest later))
    (ranked_sorted parent child (rank + 1) names rest sorted later)

scopes_sorted : (at : ℕ) (scopes : List Scope) → IsSorted place_cmp (flat_map child_names_of (numbered at scopes))
scopes_sorted at [] = λ k d low within. absurd (omega arith)
scopes_sorted at (scope ∷ scopes) =
    ranked_sorted scope.parent at 0 scope.names (flat_map child_names_of (numbered (at + 1) scopes))
    (scopes_sorted (at + 1) scopes)
    (All-weaker (λ own. at + 1 ≤ own.child) (λ own. at < own.child) (λ own low. omega (arith, low))
    (flat_map child_names_of (numbered (at + 1) scopes)) (children_from (at + 1) scopes))

-- Those of a name within a parent stand in the order of names then

one_place : (parent : ℕ) (name : List ℕ) (a b : ChildName) → is_named parent name a ≡ true
    → is_named parent name b ≡ true → name_cmp a b ≡ place_cmp a b
one_place parent name a b first second =
    let number : a.parent ≡ b.parent = eqb-true a.parent parent (first_holds (a.parent == parent)
    (bytes_eq a.name name) first) ∙ sym (eqb-true b.parent parent (first_holds (b.parent == parent)
    (bytes_eq b.name name) second)) in
    let text : a.name ≡ b.name = same_text a.name name (second_holds (a.parent == parent)
    (bytes_eq a.name name) first) ∙ sym (same_text b.name name (second_holds (b.parent == parent)
    (bytes_eq b.name name) second)) in
    rw (number, text, tied_itself nat_list_cmp_total b.name, tied_itself nat_cmp_total b.parent) refl

one_sorted : (parent : ℕ) (name : List ℕ) (names : List ChildName) → All (λ own. is_named parent name own ≡ true) names
    → IsSorted place_cmp names → IsSorted name_cmp names
one_sorted parent name names all sorted = λ k d low within.
    ap is_lt (one_place parent name (get_or names (k + 1) d) (get_or names k d)
    (All-get_or (λ own. is_named parent name own ≡ true) names (k + 1) d within all)
    (All-get_or (λ own. is_named parent name own ≡ true) names k d (omega arith) all))
    ∙ sorted k d low within

all_sorted : (parent : ℕ) (name : List ℕ) (scopes : List Scope)
    → IsSorted name_cmp (those_named parent name (all_names scopes))
all_sorted parent name scopes =
    one_sorted parent name (those_named parent name (all_names scopes))
    (filter_passes (is_named parent name) (all_names scopes))
    (IsSortedBy-filter (λ a b. is_lt (place_cmp a b)) (ranks_by place_total (λ own. own)) (is_named parent name)
    (all_names scopes) (scopes_sorted 0 scopes))

-- Names as they are sorted

abbrev written_cmp : WrittenName → WrittenName → Ordering
written_cmp a b = name_cmp (name_of a) (name_of b)

written_sorted : (written : List WrittenName) → IsSorted written_cmp written
    → IsSorted name_cmp (names_written written)
written_sorted written sorted = λ k d low within.
    let some : WrittenName = (d.parent, record { ref_ptr = (0, 0); now = d.name }, d.child, d.rank) in
    let long = length-map written name_of in
    ap (λ own. is_lt (name_cmp own (get_or (names_written written) k d)))
    (get_or-map name_of written (k + 1) some d (omega (arith, long, within)))
    ∙ ap (λ own. is_lt (name_cmp (name_of (get_or written (k + 1) some)) own))
    (get_or-map name_of written k some d (omega (arith, long, within)))
    ∙ sorted k some low (omega (arith, long, within))

pub children_are : (scopes : List Scope) (written sorted : List WrittenName) (names : List ChildName) (longest : ℕ)
    → names_written written ≡ all_names scopes → IsPermutation written sorted → IsSorted written_cmp sorted
    → names ≡ names_written sorted → AreShort longest names → AreChildNames scopes names longest
children_are scopes written sorted names longest are permuted order same short =
    let moved : IsPermutation (all_names scopes) names =
    subst (IsPermutation (all_names scopes)) (sym same)
    (subst (λ all. IsPermutation all (names_written sorted)) are (IsPermutation-map name_of written sorted permuted)) in
    let in_order : IsSorted name_cmp names = subst (IsSorted name_cmp) (sym same) (written_sorted sorted order) in
    record {
      named = λ parent name. sorted_same name_cmp name_total name_tied (those_named parent name names)
          (those_named parent name (all_names scopes))
          (IsSortedBy-filter (λ a b. is_lt (name_cmp a b)) (ranks_by name_total (λ own. own))
          (is_named parent name) names in_order)
          (all_sorted parent name scopes)
          (same_filtered (is_named parent name) (all_names scopes) names moved);
      sorted = in_order;
      short = All-permutation (λ (own : ChildName). length own.name ≤ longest) names (all_names scopes)
          (IsPermutation-sym (all_names scopes) names moved) short;
    }

-- One more scope, and one more name

pub scope_more : (scopes : List Scope) (at : ℕ) (scope : Scope) (old new whole : List ChildName) → at < length scopes
    → scope ≡ get_or scopes at scope → old ++ flat_map child_names_of (numbered at (drop at scopes)) ≡ whole
    → new ≡ old ++ child_names_of (scope, at)
    → new ++ flat_map child_names_of (numbered (at + 1) (drop (at + 1) scopes)) ≡ whole
scope_more scopes at scope old new whole within item before more =
    let rest = flat_map child_names_of (numbered (at + 1) (drop (at + 1) scopes)) in
    let next : suc at ≡ at + 1 = omega arith in
    let cut : drop at scopes ≡ get_or scopes at scope ∷ drop (at + 1) scopes =
    drop-cons scopes at scope within ∙ ap (λ n. get_or scopes at scope ∷ drop n scopes) next in
    let first : flat_map child_names_of (numbered at (drop at scopes))
    ≡ child_names_of (get_or scopes at scope, at) ++ rest =
    ap (λ some. flat_map child_names_of (numbered at some)) cut in
    ap (λ some. some ++ rest) more
    ∙ append_assoc old (child_names_of (scope, at)) rest
    ∙ ap (λ s. old ++ (child_names_of (s, at) ++ rest)) item
    ∙ ap (λ some. old ++ some) (sym first)
    ∙ before

pub scopes_end : (scopes : List Scope) (at : ℕ) (made whole : List ChildName) → length scopes ≤ at
    → made ++ flat_map child_names_of (numbered at (drop at scopes)) ≡ whole → made ≡ whole
scopes_end scopes at made whole end before =
    sym (append-nil made)
    ∙ ap (λ some. made ++ flat_map child_names_of (numbered at some)) (sym (drop_all at scopes end))
    ∙ before

pub name_more : (parent child at : ℕ) (names : List (List ℕ)) (name : List ℕ) (old new whole : List ChildName)
    → at < length names → name ≡ get_or names at name → old ++ ranked parent child at (drop at names) ≡ whole
    → new ≡ old ++ record { parent = parent; name = name; child = child; rank = at } ∷ []
    → new ++ ranked parent child (at + 1) (drop (at + 1) names) ≡ whole
name_more parent child at names name old new whole within item before more =
    let one : List ℕ → ChildName = λ text. record { parent = parent; name = text; child = child; rank = at } in
    let rest = ranked parent child (at + 1) (drop (at + 1) names) in
    let next : suc at ≡ at + 1 = omega arith in
    let cut : drop at names ≡ get_or names at name ∷ drop (at + 1) names =
    drop-cons names at name within ∙ ap (λ n. get_or names at name ∷ drop n names) next in
    ap (λ some. some ++ rest) more
    ∙ append_assoc old (one name ∷ []) rest
    ∙ ap (λ n. old ++ one n ∷ rest) item
    ∙ sym (ap (λ some. old ++ ranked parent child at some) cut)
    ∙ before

pub names_end : (parent child at : ℕ) (names : List (List ℕ)) (made whole : List ChildName) → length names ≤ at
    → made ++ ranked parent child at (drop at names) ≡ whole → made ≡ whole
names_end parent child at names made whole end before =
    sym (append-nil made) ∙ ap (λ some. made ++ ranked parent child at some) (sym (drop_all at names end))
    ∙ before

-- The longest of one more name

pub longer : (names : List ChildName) (at : ℕ) (own : ChildName) (old new : ℕ) → at < length names
    → own ≡ get_or names at own → AreShort old (take at names) → old ≤ new → length own.name ≤ new
    → AreShort new (take (at + 1) names)
longer names at own old new within item short less fits =
    let next : at + 1 ≡ suc at = omega arith in
    let cut : take (at + 1) names ≡ take at names ++ own ∷ [] =
    ap (λ n. take n names) next ∙ take-suc names at own within ∙ ap (λ o. take at names ++ o ∷ []) (sym item) in
    subst (AreShort new) (sym cut)
    (All-push (λ (other : ChildName). length other.name ≤ new) (take at names) own
    (All-weaker (λ (other : ChildName). length other.name ≤ old) (λ (other : ChildName). length other.name ≤ new)
    (λ other low. omega (arith, low, less)) (take at names) short) fits)
