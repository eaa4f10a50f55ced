-- What the builds of a batch gave (own): what the clean build gives over what is stored at their places, by rows of their
-- pages.
use Rattle.std.specs.Prelude.{◌≡◌, ℕ, List, [], Option, Some, map, slice_get}
use Rattle.std.specs.List.{flat_map}
use Rattle.dita_doc.specs.History.{Entry, sources}
use Rattle.dita_doc.specs.Request.{Build}
use Rattle.desk_language.specs.Language.{pages_from}
use Rattle.facts.specs.Rows.{RowData, Stands, row_data}
use Rattle.desk_work.specs.Build.{outcome_seen}
use Rattle.desk_work.specs.declared.built.Outcome.{Outcome}
use Rattle.desk_work.specs.declared.built.Outcome.TheVariants.{Done, Stopped, TooLarge}
use Rattle.desk_work.specs.declared.built.PageRow.{PageRow}
use Rattle.run_spec.specs.Language.{dita}
use Rattle.desk_top.specs.declared.callers.BuiltAt.{BuiltAt}

-- the rows that are cited for the pages and the contents page of a build
abbrev pub rows_of : Outcome → List RowData
rows_of (Done pages faults) = map (λ (page : PageRow). row_data page.row) pages
rows_of (Stopped stop) = []
rows_of (TooLarge total) = []

-- the rows are of the pages of this map and DITAVAL in order, and of the contents page
abbrev pub AreOfPages : List ℕ → Option (List ℕ) → Outcome → Type 0
AreOfPages root val (Done pages faults) = (count : ℕ)
    × (map (λ (page : PageRow). (row_data page.row).fact.key) pages ≡ pages_from root val 0 count)
AreOfPages root val (Stopped stop) = Unit {0}
AreOfPages root val (TooLarge total) = Unit {0}

-- a build stands at this place, and this is what the clean build gives over what is stored there
pub record IsGiven (log : List Entry) (built : BuiltAt) : Type 0 where
  pub entry : Entry
  pub stands : slice_get log built.place ≡ Some entry
  pub root : List ℕ
  pub val : Option (List ℕ)
  pub is : entry.request ≡ Build root val
  pub outcome : outcome_seen built.outcome ≡ dita.clean (sources log built.place) root val
  pub rows : AreOfPages root val built.outcome

-- the rows that builds cite
abbrev pub rows_cited : List BuiltAt → List RowData
rows_cited built = flat_map (λ (one : BuiltAt). rows_of one.outcome) built

-- of one serial there is one row
abbrev pub HaveOneRow : List RowData → Type 0
HaveOneRow rows = (row other : RowData) → Stands rows row → Stands rows other → row.serial ≡ other.serial → row ≡ other
