-- The texts of rows put together: the lines of each row, once, by its serial.
use Rattle.std.proofs.Common.{◌≡◌, ◌≢◌, ◌<◌, ◌≤◌, ◌++◌, ℕ, List, [], ◌∷◌, Option, Some, None, IfSome, IsSome, Less, All, AllPairs, Contains, ap, ◌∙◌, append-nil, append_assoc, drop, map, nat_cmp, option_map, refl, subst, sym, ⊎_elim, true≢false, arith}
use Rattle.std.specs.List.{AllByRecursion, flat_map}
use Rattle.std.specs.List.Sorted.{IsStrictlySortedBy}
use Rattle.std.specs.Map.{keys_of, values_of}
use Rattle.std.specs.Cmp.{ranks}
use Rattle.std.specs.Ordering.{MatchOrdering}
use Rattle.std.proofs.lemmas.List.Elements.{All-head, All-nil, All-push, All-tail}
use Rattle.std.proofs.lemmas.Map.Keys.{below_from_sorted, sorted_head, sorted_tail}
use Rattle.std.proofs.lemmas.List.{get_or-map, length-map}
use Rattle.std.proofs.lemmas.Option.{IfSome_then, none-some, same_Some}
use Rattle.dita_doc.specs.Bytes.{Bytes}
use Rattle.facts.specs.Rows.{RowData, row_data}
use Rattle.facts.specs.declared.row.Row.{Row}
use Rattle.row_text.specs.RowWritten.{HasPage, part_shown, with_part}
use Rattle.transcript_text.specs.Transcript.{IsRowShown, NeverFall, PartShown, RowShown, row_text}
use Rattle.desk_top.specs.Told.{TellsRow, TellsRows, row_seen}
use Rattle.desk_top.proofs.CiteLaws.{HasLines}
use Rattle.desk_top.proofs.ElementLaws.{behind_first, first_of, first_or_behind, none_of, same_first}
use Rattle.desk_top.proofs.KeptLaws.{IsKeptOf}

-- One row after another

pub no_rows : (rows : List Row) (text : Bytes) → TellsRows rows rows text text
no_rows rows text = record { shown = []; are = refl; form = All-nil IsRowShown; text = sym (append-nil text) }

flat_last : (rows : List RowShown) (row : RowShown)
    → flat_map row_text (rows ++ row ∷ []) ≡ flat_map row_text rows ++ row_text row
flat_last [] row = append-nil (row_text row)
flat_last (first ∷ rows) row =
    ap (λ rest. row_text first ++ rest) (flat_last rows row)
    ∙ sym (append_assoc (row_text first) (flat_map row_text rows) (row_text row))

map_last : (rows : List RowShown) (row : RowShown) (rest : List (Option RowShown))
    → map Some (rows ++ row ∷ []) ++ rest ≡ map Some rows ++ Some row ∷ rest
map_last [] row rest = refl
map_last (first ∷ rows) row rest = ap (λ more. Some first ∷ more) (map_last rows row rest)

pub more_rows : (rows left : List Row) (row : Row) (old text new : Bytes) → TellsRows rows (row ∷ left) old text
    → TellsRow row text new → TellsRows rows left old new
more_rows rows left row old text new before tells = record {
  shown = before.shown ++ tells.shown ∷ [];
  are = map_last before.shown tells.shown (map row_seen left)
      ∙ ap (λ one. map Some before.shown ++ one ∷ map row_seen left) (sym tells.is) ∙ before.are;
  form = All-push IsRowShown before.shown tells.shown before.form tells.form;
  text = tells.text ∙ ap (λ front. front ++ row_text tells.shown) before.text
      ∙ append_assoc old (flat_map row_text before.shown) (row_text tells.shown)
      ∙ ap (λ back. old ++ back) (sym (flat_last before.shown tells.shown));
}

-- One row

row_by : (row : Row) (part : Option PartShown) (lines old new : Bytes) → part_shown (row_data row).fact.key.part ≡ part
    → IsSome part → IfSome (option_map (with_part (row_data row)) part) (λ (shown : RowShown). lines ≡ row_text shown)
    → IfSome (option_map (with_part (row_data row)) part) IsRowShown → new ≡ old ++ lines → TellsRow row old new
row_by row None lines old new found is text form more = absurd (true≢false (sym is))
row_by row (Some part) lines old new found is text form more = record {
  shown = with_part (row_data row) part;
  is = ap (option_map (with_part (row_data row))) found;
  form = form;
  text = more ∙ ap (λ back. old ++ back) text;
}

pub row_told : (row : Row) (lines old new : Bytes) → HasPage (row_data row).fact
    → IfSome (row_seen row) (λ (shown : RowShown). lines ≡ row_text shown) → IfSome (row_seen row) IsRowShown
    → new ≡ old ++ lines → TellsRow row old new
row_told row lines old new page text form more =
    row_by row (part_shown (row_data row).fact.key.part) lines old new refl page.part text form more

-- Rows as they are shown

abbrev AreShown : List Row → List RowShown → Type 0
AreShown rows shown = map Some shown ≡ map row_seen rows

pub have_lines : (rows : List Row) (shown : List RowShown) (row : Row) → AreShown rows shown → Contains rows row
    → HasLines shown row
have_lines [] shown row are is = absurd (none_of row is)
have_lines (first ∷ rows) [] row are is = absurd cc
have_lines (first ∷ rows) (one ∷ shown) row are is =
    ⊎_elim
    (λ same. subst (HasLines (one ∷ shown)) same
    (subst (λ (found : Option RowShown). IfSome found (Contains (one ∷ shown)))
    (same_first (Some one) (row_seen first) (map Some shown) (map row_seen rows) are) (first_of one shown)))
    (λ behind. IfSome_then (row_seen row) (have_lines rows shown row (ap (drop 1) are) behind)
    (λ lines there. behind_first one shown lines there)) (first_or_behind first rows row is)

-- the row whose lines these are
pub record IsShownOf (rows : List Row) (shown : RowShown) : Type 0 where
  pub row : Row
  pub among : Contains rows row
  pub is : row_seen row ≡ Some shown

pub shown_of_row : (rows : List Row) (shown : List RowShown) (lines : RowShown) → AreShown rows shown
    → Contains shown lines → IsShownOf rows lines
shown_of_row rows [] lines are is = absurd (none_of lines is)
shown_of_row [] (one ∷ shown) lines are is = absurd cc
shown_of_row (first ∷ rows) (one ∷ shown) lines are is =
    ⊎_elim (λ same. record {
      row = first;
      among = first_of first rows;
      is = sym (same_first (Some one) (row_seen first) (map Some shown) (map row_seen rows) are) ∙ ap Some same;
    }) (λ behind. let found = shown_of_row rows shown lines (ap (drop 1) are) behind in
    record { row = found.row; among = behind_first first rows found.row found.among; is = found.is })
    (first_or_behind one shown lines is)

part_serial : (row : RowData) (part : Option PartShown) (shown : RowShown)
    → option_map (with_part row) part ≡ Some shown → shown.serial ≡ row.serial
part_serial row None shown is = absurd (none-some shown is)
part_serial row (Some part) shown is =
    ap (λ (one : RowShown). one.serial) (sym (same_Some (with_part row part) shown is))

pub serial_shown : (row : Row) (shown : RowShown) → row_seen row ≡ Some shown → shown.serial ≡ row.serial
serial_shown row shown is = part_serial (row_data row) (part_shown (row_data row).fact.key.part) shown is

-- Serials

abbrev serial_of : RowShown → ℕ
serial_of shown = shown.serial

serials_are : (all : List Row) (kept : List (ℕ × Row)) (shown : List RowShown) → All (IsKeptOf all) kept
    → AreShown (values_of kept) shown → map serial_of shown ≡ keys_of kept
serials_are all [] [] own are = refl
serials_are all [] (one ∷ shown) own are = absurd cc
serials_are all (e ∷ kept) [] own are = absurd cc
serials_are all (e ∷ kept) (one ∷ shown) own are =
    let here = serial_shown e.1 one (sym (same_first (Some one) (row_seen e.1) (map Some shown)
    (map row_seen (values_of kept)) are)) ∙ sym (All-head (IsKeptOf all) e kept own).own in
    ap (λ serial. serial ∷ map serial_of shown) here
    ∙ ap (λ rest. e.0 ∷ rest) (serials_are all kept shown (All-tail (IsKeptOf all) e kept own) (ap (drop 1) are))

abbrev AreFrom : ℕ → List ℕ → Type 0
AreFrom low serials = AllByRecursion (λ serial. low ≤ serial) serials

from_none : (serials : List ℕ) → AreFrom 0 serials
from_none [] = tt
from_none (serial ∷ serials) = (omega arith, from_none serials)

below : (low serial : ℕ) → nat_cmp low serial ≡ Less → low ≤ serial
below low serial is =
    let ranked : low < serial =
    subst (λ r. MatchOrdering r (low < serial) (low ≡ serial) (serial < low)) is (ranks low serial) in
    omega arith

from_below : (low : ℕ) (serials : List ℕ) → AllByRecursion (λ serial. nat_cmp low serial ≡ Less) serials
    → AreFrom low serials
from_below low [] all = tt
from_below low (serial ∷ serials) all = (below low serial all.0, from_below low serials all.1)

fall : (low : ℕ) (shown : List RowShown) → AreFrom low (map serial_of shown)
    → IsStrictlySortedBy nat_cmp (map serial_of shown) → NeverFall low shown
fall low [] from sorted = tt
fall low (one ∷ shown) from sorted = (
  from.0,
  fall one.serial shown
      (from_below one.serial (map serial_of shown) (sorted_head nat_cmp one.serial (map serial_of shown) sorted))
      (sorted_tail nat_cmp one.serial (map serial_of shown) sorted),
)

abbrev Differ : RowShown → RowShown → Type 0
Differ row other = row.serial ≢ other.serial

differ : (shown : List RowShown) → IsStrictlySortedBy nat_cmp (map serial_of shown) → AllPairs Differ shown
differ shown sorted i j d before within same =
    let serials = map serial_of shown in
    let many = length-map shown serial_of in
    let low = below_from_sorted serials i j d.serial sorted before (omega (arith, within, many)) in
    let first = get_or-map serial_of shown i d d.serial (omega (arith, before, within)) in
    let second = get_or-map serial_of shown j d d.serial within in
    absurd (omega (arith, low, first, second, same))

-- the rows of a table by serials are shown by serials that never fall, and no serial stands twice
pub record ShowsSerials (shown : List RowShown) : Type 0 where
  pub rising : NeverFall 0 shown
  pub different : AllPairs (λ (row other : RowShown). row.serial ≢ other.serial) shown

pub serials_shown : (all : List Row) (kept : List (ℕ × Row)) (shown : List RowShown) → All (IsKeptOf all) kept
    → AreShown (values_of kept) shown → IsStrictlySortedBy nat_cmp (keys_of kept) → ShowsSerials shown
serials_shown all kept shown own are sorted =
    let rise = subst (IsStrictlySortedBy nat_cmp) (sym (serials_are all kept shown own are)) sorted in
    record { rising = fall 0 shown (from_none (map serial_of shown)) rise; different = differ shown rise }
