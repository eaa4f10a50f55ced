-- What was made in a run of events: the rows that were published, in order.
use Rattle.std.specs.Prelude.{◌≡◌, ◌+◌, ◌<◌, ℕ, List, [], ◌∷◌, ◌++◌, Some, Ok, drop, length, slice_get}
use Rattle.desk_core.specs.Events.{Ending, Published}
use Rattle.desk_core.specs.Steps.{EventDone}
use Rattle.facts.specs.Rows.{RowData}
use Rattle.facts.specs.Table.{TableData, made, size}

abbrev pub row_published : Ending → List RowData
row_published (Ok (Published row)) = row ∷ []
row_published ending = []

abbrev pub rows_published : List EventDone → List RowData
rows_published [] = []
rows_published (done ∷ more) = row_published done.ending ++ rows_published more

-- The kept rows are those that were published, but for the first ones, which were dropped; none was dropped unless all
-- together exceed the limit. The rank of a row is its number among those that were published.
pub record IsMade (rows : List RowData) (table : TableData) : Type 0 where
  pub kept : table.rows ≡ drop table.dropped rows
  pub count : made table ≡ length rows
  pub over : 0 < table.dropped → table.limit < size rows
  pub ranks : (place : ℕ) (row : RowData) → slice_get rows place ≡ Some row → row.rank ≡ place + 1
