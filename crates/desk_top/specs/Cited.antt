-- What is cited of builds (own): what is shown of each at its place, and the rows that they cite, by their serials.
use Rattle.std.specs.Prelude.{◌≡◌, ◌<◌, ◌⊎◌, ℕ, true, List, [], ◌∷◌, Option, Some, None, All, flat_map, get_or, is_some, length, map}
use Rattle.std.specs.BTreeMap.{insert_entry}
use Rattle.std.specs.Ordering.{nat_cmp}
use Rattle.facts.specs.Rows.{Stands}
use Rattle.facts.specs.declared.row.Row.{Row}
use Rattle.transcript_text.specs.declared.built.BuiltText.{BuiltText}
use Rattle.transcript_text.specs.declared.built.BuiltText.TheVariants as texts
use Rattle.transcript_text.specs.declared.built.PageMark as marked
use Rattle.transcript_text.specs.declared.built.PageMark.TheVariants as marks
use Rattle.desk_work.specs.declared.built.Outcome.{Outcome}
use Rattle.desk_work.specs.declared.built.Outcome.TheVariants.{Done, Stopped, TooLarge}
use Rattle.desk_work.specs.declared.built.PageRow.{PageRow}
use Rattle.desk_top.specs.Served.{places_of}
use Rattle.desk_top.specs.declared.callers.BuiltAt.{BuiltAt}

-- What is shown

-- a page by the serial of its row
abbrev pub page_marked : PageRow → List ℕ × marked.PageMark
page_marked page = (page.name, marks.Row page.row.serial)

abbrev pub text_of : Outcome → BuiltText
text_of (Done pages faults) = texts.Pages (map page_marked pages) faults
text_of (Stopped stop) = texts.Stopped stop
text_of (TooLarge total) = texts.TooLarge total

-- the text is what is shown of a build at this place
pub record IsTextAt (built : List BuiltAt) (place : ℕ) (text : BuiltText) : Type 0 where
  pub outcome : Outcome
  pub stands : Stands built (record { place = place; outcome = outcome })
  pub is : text ≡ text_of outcome

-- each build is shown at its place, and nothing at another
pub record AreShown (shown : List (Option BuiltText)) (built : List BuiltAt) : Type 0 where
  pub forth : (place : ℕ) → Stands (places_of built) place → is_some (get_or shown place None) ≡ true
  pub back : (place : ℕ) (text : BuiltText) → get_or shown place None ≡ Some text → IsTextAt built place text

-- The rows

abbrev pub row_in : PageRow → Row
row_in page = page.row

abbrev pub rows_in : Outcome → List Row
rows_in (Done pages faults) = map row_in pages
rows_in (Stopped stop) = []
rows_in (TooLarge total) = []

abbrev pub rows_of_build : BuiltAt → List Row
rows_of_build one = rows_in one.outcome

abbrev pub rows_in_all : List BuiltAt → List Row
rows_in_all built = flat_map rows_of_build built

-- rows by their serials, with one more, and with some more: the later stands in the place of the earlier
abbrev pub with_row : List (ℕ × Row) → Row → List (ℕ × Row)
with_row kept row = insert_entry nat_cmp kept row.serial row

abbrev pub with_rows : List (ℕ × Row) → List Row → List (ℕ × Row)
with_rows kept [] = kept
with_rows kept (row ∷ rows) = with_rows (with_row kept row) rows

-- All builds but some

-- all builds but those that are left are shown, and their rows are kept
pub record AreCitedBut (shown : List (Option BuiltText)) (kept : List (ℕ × Row)) (built left : List BuiltAt)
    : Type 0 where
  pub forth : (place : ℕ) → Stands (places_of built) place
      → (is_some (get_or shown place None) ≡ true) ⊎ Stands (places_of left) place
  pub back : (place : ℕ) (text : BuiltText) → get_or shown place None ≡ Some text → IsTextAt built place text
  pub among : (one : BuiltAt) → Stands left one → Stands built one
  pub within : All (λ (place : ℕ). place < length shown) (places_of left)
  pub rows : with_rows kept (rows_in_all left) ≡ with_rows [] (rows_in_all built)
