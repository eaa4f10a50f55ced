-- Rows by their serials: under the serial of each row that was put there is one of these rows, and there is no other.
use Rattle.std.proofs.Common.{◌≡◌, ◌<◌, ℕ, List, [], ◌∷◌, ◌++◌, Ordering, Less, Equal, Greater, All, Contains, refl, sym, subst, ⊎_elim, nat_cmp}
use Rattle.std.specs.BTreeMap.{insert_entry}
use Rattle.std.specs.Cmp.{ranks}
use Rattle.std.specs.Map.{keys_of, values_of}
use Rattle.std.specs.Ordering.{MatchOrdering, match_ordering}
use Rattle.std.proofs.lemmas.List.Elements.{All-cons, All-contains, All-head, All-nil, All-tail}
use Rattle.std.proofs.lemmas.Map.Made.{Contains-from_values_of, Contains-values_of}
use Rattle.facts.specs.declared.row.Row.{Row}
use Rattle.desk_top.specs.Cited.{with_row, with_rows}
use Rattle.desk_top.proofs.ElementLaws.{behind_first, first_of, first_or_behind, none_of}

-- One row more

abbrev RanksBy : Ordering → ℕ → ℕ → Type 0
RanksBy r key other = MatchOrdering r (key < other) (key ≡ other) (other < key)

module _ (P : ℕ × Row → Type 0) (key : ℕ) (row : Row) (one : P (key, row)) where
  abbrev inserted : List (ℕ × Row) → List (ℕ × Row)
  inserted kept = insert_entry nat_cmp kept key row

  keeps_by : (e : ℕ × Row) (kept : List (ℕ × Row)) (r : Ordering) → RanksBy r key e.0 → All P (e ∷ kept)
      → All P (inserted kept) → All P (match_ordering r ((key, row) ∷ e ∷ kept) ((e.0, row) ∷ kept) (e ∷ inserted kept))
  keeps_by e kept Less ranked all more = All-cons P (key, row) (e ∷ kept) one all
  keeps_by e kept Equal same all more =
      All-cons P (e.0, row) kept (subst (λ (k : ℕ). P (k, row)) same one) (All-tail P e kept all)
  keeps_by e kept Greater ranked all more = All-cons P e (inserted kept) (All-head P e kept all) more

  insert_keeps : (kept : List (ℕ × Row)) → All P kept → All P (inserted kept)
  insert_keeps [] all = All-cons P (key, row) [] one (All-nil P)
  insert_keeps (e ∷ kept) all =
      keeps_by e kept (nat_cmp key e.0) (ranks key e.0) all (insert_keeps kept (All-tail P e kept all))

module _ (key : ℕ) (row : Row) where
  abbrev put : List (ℕ × Row) → List (ℕ × Row)
  put kept = insert_entry nat_cmp kept key row

  has_by : (e : ℕ × Row) (kept : List (ℕ × Row)) (r : Ordering) → RanksBy r key e.0 → Contains (keys_of (put kept)) key
      → Contains (keys_of (match_ordering r ((key, row) ∷ e ∷ kept) ((e.0, row) ∷ kept) (e ∷ put kept))) key
  has_by e kept Less ranked more = first_of key (keys_of (e ∷ kept))
  has_by e kept Equal same more =
      subst (λ (k : ℕ). Contains (e.0 ∷ keys_of kept) k) (sym same) (first_of e.0 (keys_of kept))
  has_by e kept Greater ranked more = behind_first e.0 (keys_of (put kept)) key more

  insert_has : (kept : List (ℕ × Row)) → Contains (keys_of (put kept)) key
  insert_has [] = first_of key []
  insert_has (e ∷ kept) = has_by e kept (nat_cmp key e.0) (ranks key e.0) (insert_has kept)

  stays_by : (e : ℕ × Row) (kept : List (ℕ × Row)) (other : ℕ) (r : Ordering) → Contains (keys_of (e ∷ kept)) other
      → (Contains (keys_of kept) other → Contains (keys_of (put kept)) other)
      → Contains (keys_of (match_ordering r ((key, row) ∷ e ∷ kept) ((e.0, row) ∷ kept) (e ∷ put kept))) other
  stays_by e kept other Less has more = behind_first key (keys_of (e ∷ kept)) other has
  stays_by e kept other Equal has more = has
  stays_by e kept other Greater has more =
      ⊎_elim (λ same. subst (Contains (e.0 ∷ keys_of (put kept))) same (first_of e.0 (keys_of (put kept))))
      (λ behind. behind_first e.0 (keys_of (put kept)) other (more behind))
      (first_or_behind e.0 (keys_of kept) other has)

  insert_stays : (kept : List (ℕ × Row)) (other : ℕ) → Contains (keys_of kept) other
      → Contains (keys_of (put kept)) other
  insert_stays [] other is = absurd (none_of _ is)
  insert_stays (e ∷ kept) other has =
      stays_by e kept other (nat_cmp key e.0) has (insert_stays kept other)

-- All rows

with_keeps : (P : ℕ × Row → Type 0) (rows : List Row) (kept : List (ℕ × Row)) → All P kept
    → ((row : Row) → Contains rows row → P (row.serial, row)) → All P (with_rows kept rows)
with_keeps P [] kept all each = all
with_keeps P (row ∷ rows) kept all each =
    with_keeps P rows (with_row kept row) (insert_keeps P row.serial row (each row (first_of row rows)) kept all)
    (λ other is. each other (behind_first row rows other is))

with_stays : (rows : List Row) (kept : List (ℕ × Row)) (other : ℕ) → Contains (keys_of kept) other
    → Contains (keys_of (with_rows kept rows)) other
with_stays [] kept other has = has
with_stays (row ∷ rows) kept other has =
    with_stays rows (with_row kept row) other (insert_stays row.serial row kept other has)

with_has : (rows : List Row) (kept : List (ℕ × Row)) (one : Row) → Contains rows one
    → Contains (keys_of (with_rows kept rows)) one.serial
with_has [] kept one is = absurd (none_of _ is)
with_has (row ∷ rows) kept one is =
    ⊎_elim (λ same. subst (λ (r : Row). Contains (keys_of (with_rows (with_row kept row) rows)) r.serial) same
    (with_stays rows (with_row kept row) row.serial (insert_has row.serial row kept)))
    (λ behind. with_has rows (with_row kept row) one behind) (first_or_behind row rows one is)

pub with_both : (rows more : List Row) (kept : List (ℕ × Row))
    → with_rows kept (rows ++ more) ≡ with_rows (with_rows kept rows) more
with_both [] more kept = refl
with_both (row ∷ rows) more kept = with_both rows more (with_row kept row)

-- What is kept of rows

-- a row stands under its serial, and is one of these
pub record IsKeptOf (rows : List Row) (kept : ℕ × Row) : Type 0 where
  pub own : kept.0 ≡ kept.1.serial
  pub among : Contains rows kept.1

pub all_kept : (rows : List Row) → All (IsKeptOf rows) (with_rows [] rows)
all_kept rows = with_keeps (IsKeptOf rows) rows [] (All-nil (IsKeptOf rows))
    (λ row is. record { own = refl; among = is })

-- a row with the serial of this one
pub record HasSerialOf (kept : List (ℕ × Row)) (rows : List Row) (one : Row) : Type 0 where
  pub row : Row
  pub stands : Contains (values_of kept) row
  pub among : Contains rows row
  pub same : row.serial ≡ one.serial

key_stands : (kept : List (ℕ × Row)) (key : ℕ) → Contains (keys_of kept) key → (row : Row) × Contains kept (key, row)
key_stands [] key is = absurd (none_of _ is)
key_stands (e ∷ kept) key has =
    ⊎_elim (λ same. (e.1, subst (λ (k : ℕ). Contains (e ∷ kept) (k, e.1)) same (first_of e kept)))
    (λ behind. let found = key_stands kept key behind in
    (found.0, behind_first e kept (key, found.0) found.1)) (first_or_behind e.0 (keys_of kept) key has)

pub each_kept : (rows : List Row) (one : Row) → Contains rows one → HasSerialOf (with_rows [] rows) rows one
each_kept rows one is =
    let kept = with_rows [] rows in
    let found = key_stands kept one.serial (with_has rows [] one is) in
    let stands = All-contains (IsKeptOf rows) kept (one.serial, found.0) (all_kept rows) found.1 in
    record {
      row = found.0;
      stands = Contains-values_of kept one.serial found.0 found.1;
      among = stands.among;
      same = sym stands.own;
    }

pub kept_among : (rows : List Row) (row : Row) → Contains (values_of (with_rows [] rows)) row → Contains rows row
kept_among rows row stands =
    let found = Contains-from_values_of (with_rows [] rows) row stands in
    (All-contains (IsKeptOf rows) (with_rows [] rows) (found.0, row) (all_kept rows) found.1).among
