-- The pages of a transcript: each page line, read together with the row line that it names.
use Rattle.std.specs.Prelude.{◌≡◌, ◌+◌, ◌==◌, ◌↔◌, ℕ, List, [], ◌∷◌, Option, Some, None, Contains, flat_map, if◌then◌else◌, map, option_map}
use Rattle.build_spec.specs.Built.{Page, built_pages}
use Rattle.dita_doc.specs.Desk.{State}
use Rattle.dita_doc.specs.Lines.{line}
use Rattle.dita_doc.specs.Request.{Request, Single, Get, Names, Build, Group}
use Rattle.transcript_text.specs.Transcript.{BuildShown, BuiltPages, StoppedBy, PagesTooLarge, EntryShown, InOutlet, InRow, IsContents, IsPage, PageMark, PageShown, PartShown, RowShown, Shown, StoredAt, RemovedAt, Refuses, GroupedAs, StoppedAt, Lines, Names as NamesShown, OfBuild, Transcript}
use Rattle.run_spec.specs.HistoryTold.{Moment}
use Rattle.run_spec.specs.Language.{dita}
use Rattle.faithful_laws.specs.OneHistory.{DifferInSerials}

-- what a row line says apart from its serial
pub record RowSaid : Type 0 where
  pub part : PartShown
  pub map : List ℕ
  pub val : Option (List ℕ)
  pub bytes : List ℕ

abbrev pub row_said : RowShown → RowSaid
row_said row = record { part = row.part; map = row.map; val = row.val; bytes = flat_map line row.lines }

-- what the first row line of this serial says
abbrev pub said_at : List RowShown → ℕ → Option RowSaid
said_at [] serial = None
said_at (row ∷ rows) serial = if row.serial == serial then Some (row_said row) else said_at rows serial

-- a page line whose row line was found: the name of the page, and what the row line says
pub record PageRead : Type 0 where
  pub name : List ℕ
  pub row : RowSaid

abbrev pub with_row : List ℕ → RowSaid → PageRead
with_row name row = record { name = name; row = row }

abbrev pub row_of_mark : List RowShown → PageMark → Option RowSaid
row_of_mark rows (InOutlet bytes) = None
row_of_mark rows (InRow serial) = said_at rows serial

-- a page line with the row line that it names; none if it names none
abbrev pub page_read : List RowShown → PageShown → Option PageRead
page_read rows page = option_map (with_row page.name) (row_of_mark rows page.mark)

abbrev pub page_lines_of_build : BuildShown → List PageShown
page_lines_of_build (BuiltPages pages faults) = pages
page_lines_of_build (StoppedBy stop) = []
page_lines_of_build (PagesTooLarge total) = []

abbrev pub page_lines : Shown → List PageShown
page_lines (StoredAt version) = []
page_lines (RemovedAt version) = []
page_lines (Refuses refusal) = []
page_lines (GroupedAs edits) = []
page_lines (StoppedAt number refusal) = []
page_lines (Lines lines) = []
page_lines (NamesShown names) = []
page_lines (OfBuild built) = page_lines_of_build built

-- the page lines of an entry, each with its row line
abbrev pub pages_read : List RowShown → EntryShown → List (Option PageRead)
pages_read rows entry = map (page_read rows) (page_lines entry.shown)

-- What they are to be

abbrev pub page_given : List ℕ → Option (List ℕ) → PartShown → Page → PageRead
page_given root val part page =
    record { name = page.0; row = record { part = part; map = root; val = val; bytes = page.1 } }

-- the pages that a build of this map and DITAVAL gave, from this index on; the last is the contents page
abbrev pub pages_given : List ℕ → Option (List ℕ) → ℕ → List Page → List PageRead
pages_given root val index [] = []
pages_given root val index (page ∷ []) = page_given root val IsContents page ∷ []
pages_given root val index (page ∷ next ∷ pages) =
    page_given root val (IsPage index) page ∷ pages_given root val (index + 1) (next ∷ pages)

-- the pages of the clean build that a request asks for over what is stored; of other requests there are none
abbrev pub clean_pages : State → Request → List PageRead
clean_pages state (Single edit) = []
clean_pages state (Get name) = []
clean_pages state Names = []
clean_pages state (Build root val) = pages_given root val 0 (built_pages (dita.clean state root val))
clean_pages state (Group edits) = []

-- each page line of the entry names a row line, and together they have the pages of the clean build
abbrev pub ReadsPages : List RowShown → Moment → Type 0
ReadsPages rows moment = pages_read rows moment.entry ≡ map Some (clean_pages moment.state moment.step.request)

-- Two transcripts

-- The entries differ in the serials of their page lines alone. Each entry has the same pages, with the same bytes. What
-- a row line of the one says apart from its serial, a row line of the other says. The ends count the same entries.
pub record DifferInRows (one other : Transcript) : Type 0 where
  pub entries : DifferInSerials one.entries other.entries
  pub pages : map (pages_read one.rows) one.entries ≡ map (pages_read other.rows) other.entries
  pub rows : (said : RowSaid) → Contains (map row_said one.rows) said ↔ Contains (map row_said other.rows) said
  pub count : one.totals.entries ≡ other.totals.entries
