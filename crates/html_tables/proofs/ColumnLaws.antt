-- The columns of a group, one by one.
use Rattle.std.specs.Prelude.{◌≡◌, ◌+◌, ◌<◌, ℕ, suc, Bool, true, false, List, [], ◌∷◌, ◌++◌, Option, Some, None, bytes_eq, codes, filter, is_some, length, map, if◌then◌else◌}
use Rattle.std.specs.BTreeMap.{get_by_text}
use Rattle.std.proofs.Common.{refl, sym, ap, ◌∙◌, append_assoc, arith, cond, subst}
use Rattle.std.proofs.lemmas.Bool.{false≢true}
use Rattle.std.proofs.lemmas.List.{append-nil, length-append, map-append}
use Rattle.std.proofs.lemmas.List.Elements.{filter-append}
use Rattle.std.proofs.lemmas.Option.{none-some, same_Some}
use Rattle.std.proofs.lemmas.Slice.Eq.{bytes_eq-Decides}
use Rattle.dita_doc.proofs.Tests.{one_further, text_swaps}
use Rattle.doc_elements.proofs.ChildLaws.{siblings_side_by_side}
use Rattle.html_tables.specs.declared.columns.Columns.{Columns}
use Rattle.html_tables.specs.Walk.{AreColumns, HasNameMore, Names, or_at}
use Rattle.map_spec.specs.Elements.{attribute, children, is_a, is_transparent, is_value, is_whole, without_transparent}
use Rattle.map_spec.specs.Pages.{place_of}
use Rattle.map_spec.specs.Written.{Element, Whole, Written, Node}
use Rattle.html_spec.specs.Tables.{column_at, column_names, columns_from, columns_of}

-- A place among names

add_zero : (at : ℕ) → at ≡ at + 0
add_zero at = omega arith

one_place : (is : Bool) (at : ℕ) → (if is then Some at else None) ≡ (if is then Some (at + 0) else None)
one_place true at = ap Some (add_zero at)
one_place false at = refl

place_by : {X : Type 0} (test : X → Bool) (at : ℕ) (first : X) (xs : List X) (x : X) (is : Bool) (rest : Option ℕ)
    → test first ≡ is → place_of test (at + 1) (xs ++ x ∷ []) ≡ or_at rest (test x) (at + 1 + length xs)
    → rest ≡ place_of test (at + 1) xs
    → place_of test at (first ∷ xs ++ x ∷ []) ≡ or_at (place_of test at (first ∷ xs)) (test x) (at + suc (length xs))
place_by test at first xs x true rest e more same = rw e refl
place_by test at first xs x false rest e more same =
    rw (e, more, same) (ap (λ n. or_at (place_of test (at + 1) xs) (test x) n) (one_further at (length xs)))

-- a place among one more
pub place_more : {X : Type 0} (test : X → Bool) (at : ℕ) (xs : List X) (x : X)
    → place_of test at (xs ++ x ∷ []) ≡ or_at (place_of test at xs) (test x) (at + length xs)
place_more test at [] x = one_place (test x) at
place_more test at (first ∷ xs) x = place_by test at first xs x (test first) (place_of test (at + 1) xs) refl
    (place_more test (at + 1) xs x) refl

zero_more : (n : ℕ) → 0 + n ≡ n
zero_more n = omega arith

-- a place among one more, counted from none
place_last : {X : Type 0} (test : X → Bool) (xs : List X) (x : X)
    → or_at (place_of test 0 xs) (test x) (length xs) ≡ place_of test 0 (xs ++ x ∷ [])
place_last test xs x =
    sym (place_more test 0 xs x ∙ ap (or_at (place_of test 0 xs) (test x)) (zero_more (length xs)))

-- a place is below the count
place_below_by : {X : Type 0} (test : X → Bool) (at : ℕ) (first : X) (xs : List X) (k : ℕ) (is : Bool)
    → test first ≡ is → place_of test at (first ∷ xs) ≡ Some k
    → (place_of test (at + 1) xs ≡ Some k → k < at + 1 + length xs) → k < at + suc (length xs)
place_below_by test at first xs k true e found more =
    let same = same_Some at k (rw e at found) in omega (arith, same)
place_below_by test at first xs k false e found more =
    let below = more (rw e at found) in omega (arith, below)

pub place_below : {X : Type 0} (test : X → Bool) (at : ℕ) (xs : List X) (k : ℕ) → place_of test at xs ≡ Some k
    → k < at + length xs
place_below test at [] k found = absurd (none-some k found)
place_below test at (first ∷ xs) k found = place_below_by test at first xs k (test first) refl found
    (place_below test (at + 1) xs k)

-- Names with their places

or_no : (found : Option ℕ) (at : ℕ) → found ≡ or_at found false at
or_no None at = refl
or_no (Some k) at = refl

or_kept : (found : Option ℕ) (at : ℕ) → is_some found ≡ true → found ≡ or_at found true at
or_kept None at some = absurd (false≢true some)
or_kept (Some k) at some = refl

or_new : (found : Option ℕ) (at : ℕ) → is_some found ≡ false → Some at ≡ or_at found true at
or_new None at none = refl
or_new (Some k) at none = absurd (false≢true (sym none))

-- a name that has a place keeps it
kept_by : (places : List ℕ → Option ℕ) (name other : List ℕ) (count : ℕ) (same : Bool) → bytes_eq name other ≡ same
    → is_some (places name) ≡ true → places other ≡ or_at (places other) same count
kept_by places name other count false e some = or_no (places other) count
kept_by places name other count true e some =
    let is = (bytes_eq-Decides name other).0 e in
    or_kept (places other) count (subst (λ text. is_some (places text) ≡ true) is some)

pub place_kept : (places : List ℕ → Option ℕ) (name other : List ℕ) (count : ℕ) → is_some (places name) ≡ true
    → places other ≡ or_at (places other) (bytes_eq name other) count
place_kept places name other count some = kept_by places name other count (bytes_eq name other) refl some

-- a name without a place takes this one
taken_by : (places : List ℕ → Option ℕ) (name other : List ℕ) (count : ℕ) (same : Bool) → bytes_eq name other ≡ same
    → is_some (places name) ≡ false → cond same (Some count) (places other) ≡ or_at (places other) same count
taken_by places name other count false e none = or_no (places other) count
taken_by places name other count true e none =
    let is = (bytes_eq-Decides name other).0 e in
    or_new (places other) count (subst (λ text. is_some (places text) ≡ false) is none)

pub place_taken : (places : List ℕ → Option ℕ) (name other : List ℕ) (count : ℕ) → is_some (places name) ≡ false
    → cond (bytes_eq name other) (Some count) (places other) ≡ or_at (places other) (bytes_eq name other) count
place_taken places name other count none = taken_by places name other count (bytes_eq name other) refl none

-- one more column with a name
pub with_name : (old named new : Columns) (name : List ℕ) (names : Names) → HasNameMore old named name
    → new.places ≡ named.places → new.count ≡ named.count + 1 → AreColumns old names
    → AreColumns new (names ++ Some name ∷ [])
with_name old named new name names more places count are = record {
  count = rw (count, more.count, are.count) (sym (length-append names (Some name ∷ [])));
  places = λ other.
      ap (λ map. get_by_text map other) places
      ∙ more.places other
      ∙ rw (are.places other, are.count, text_swaps name other) (place_last (is_value other) names (Some name));
}

-- one more without a name
pub without_name : (old new : Columns) (names : Names) → new.places ≡ old.places → new.count ≡ old.count + 1
    → AreColumns old names → AreColumns new (names ++ None ∷ [])
without_name old new names places count are = record {
  count = rw (count, are.count) (sym (length-append names (None ∷ [])));
  places = λ other.
      ap (λ map. get_by_text map other) places
      ∙ are.places other
      ∙ or_no (column_at names (Some other)) (length names)
      ∙ place_last (is_value other) names None;
}

-- Columns among nodes

abbrev names_of : List Whole → Names
names_of wholes = map (λ (column : Whole). attribute (codes "colname") column.0)
    (filter (is_whole (codes "topic/colspec")) wholes)

names_both : (wholes more : List Whole) → names_of (wholes ++ more) ≡ names_of wholes ++ names_of more
names_both wholes more =
    ap (map (λ (column : Whole). attribute (codes "colname") column.0))
    (filter-append (is_whole (codes "topic/colspec")) wholes more)
    ∙ map-append (λ (column : Whole). attribute (codes "colname") column.0)
    (filter (is_whole (codes "topic/colspec")) wholes) (filter (is_whole (codes "topic/colspec")) more)

module _ (nodes : Written) (element : Element) (inside rest : Written) (first : nodes ≡ Node element inside rest) where
  -- a transparent element gives those in it
  pub names_inside : true ≡ is_transparent element → column_names nodes ≡ column_names inside ++ column_names rest
  names_inside is = rw (first, ← is, siblings_side_by_side (without_transparent inside) (without_transparent rest))
      (names_both (children inside) (children rest))

  -- a column gives its own
  pub names_column : false ≡ is_transparent element → true ≡ is_a (codes "topic/colspec") element
      → column_names nodes ≡ attribute (codes "colname") element ∷ column_names rest
  names_column is typed = rw (first, ← is, ← typed) refl

  -- another element gives none
  pub names_other : false ≡ is_transparent element → false ≡ is_a (codes "topic/colspec") element
      → column_names nodes ≡ column_names rest
  names_other is typed = rw (first, ← is, ← typed) refl

-- The walk over them

-- some columns were seen, and these are left
pub record IsOnTheWay (columns : Columns) (all left : Names) : Type 0 where
  pub seen : Names
  pub are : AreColumns columns seen
  pub whole : all ≡ seen ++ left

pub way_ends : (columns : Columns) (all left : Names) → left ≡ [] → IsOnTheWay columns all left → AreColumns columns all
way_ends columns all left none way =
    subst (AreColumns columns) (sym (way.whole ∙ ap (λ more. way.seen ++ more) none ∙ append-nil way.seen)) way.are

-- nothing is seen
pub way_same : (columns : Columns) (all left more : Names) → left ≡ more → IsOnTheWay columns all left
    → IsOnTheWay columns all more
way_same columns all left more same way = subst (IsOnTheWay columns all) same way

-- some more are seen
pub way_more : (columns new : Columns) (all left some more : Names) → left ≡ some ++ more
    → ((names : Names) → AreColumns columns names → AreColumns new (names ++ some))
    → IsOnTheWay columns all left → IsOnTheWay new all more
way_more columns new all left some more same step way = record {
  seen = way.seen ++ some;
  are = step way.seen way.are;
  whole = way.whole ∙ ap (λ names. way.seen ++ names) same ∙ sym (append_assoc way.seen some more);
}

-- Spans

column_none : (value : Option (List ℕ)) → column_at [] value ≡ None
column_none None = refl
column_none (Some name) = refl

-- no column has a name where there are none
pub no_columns : (names : Names) (element : Element) → names ≡ [] → 1 ≡ columns_of names element
no_columns names element none =
    rw (none, column_none (attribute (codes "namest") element)) refl

-- equal places span the same
pub spans_same : (first last own other : Option ℕ) → first ≡ own → last ≡ other
    → columns_from first last ≡ columns_from own other
spans_same first last own other one two = rw (one, two) refl

-- the place of a name is below the count
pub column_below : (names : Names) (value : Option (List ℕ)) (at : ℕ) → column_at names value ≡ Some at
    → at < length names
column_below names None at found = absurd (none-some at found)
column_below names (Some name) at found =
    let below = place_below (is_value name) 0 names at found in omega (arith, below)
