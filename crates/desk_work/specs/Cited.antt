-- The rows that are cited for the parts of a build, and what a build names of them (own).
use Rattle.std.specs.Prelude.{◌≡◌, List, map}
use Rattle.facts.specs.Rows.{RowData, row_data}
use Rattle.facts.specs.declared.fact.Fact.{Fact}
use Rattle.facts.specs.declared.row.Row.{Row}
use Rattle.desk_work.specs.declared.built.Outcome.{Outcome}
use Rattle.desk_work.specs.declared.built.Outcome.TheVariants.{Done, Stopped, TooLarge}
use Rattle.desk_work.specs.declared.built.PageRow.{PageRow}

abbrev pub rows_seen : List Row → List RowData
rows_seen rows = map row_data rows

abbrev pub facts_of : List Row → List Fact
facts_of rows = map (λ (row : Row). (row_data row).fact) rows

-- the pages of a finished build are those of these rows, in order
abbrev pub NamesRows : Outcome → List RowData → Type 0
NamesRows (Done pages faults) rows = map (λ (page : PageRow). row_data page.row) pages ≡ rows
NamesRows (Stopped stop) rows = Unit {0}
NamesRows (TooLarge total) rows = Unit {0}
