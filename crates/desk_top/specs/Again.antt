-- The builds of a text, and what those of a batch made and cited (own): each of the text is one of the batch, and shows
-- the serials of the rows that it cites for its pages and its contents page.
use Rattle.std.specs.Prelude.{◌≡◌, ℕ, List, [], Option, Some, drop, length, map, slice_get}
use Rattle.build_spec.specs.Built.{BuildOutcome, Done, Stopped, TooLarge}
use Rattle.dita_doc.specs.Desk.{State, version_at}
use Rattle.dita_doc.specs.History.{Entry, sources}
use Rattle.facts.specs.Rows.{RowData}
use Rattle.facts.specs.declared.fact.Fact.{Fact}
use Rattle.desk_language.specs.Language.{Language}
use Rattle.desk_lock.specs.Meaning.{Meaning}
use Rattle.run_spec.specs.HistoryTold.{BuildTold}
use Rattle.desk_top.specs.Made.{BuildMade}

abbrev pub serials_in : List RowData → List ℕ
serials_in rows = map (λ (row : RowData). row.serial) rows

-- the serials that a build shows, of the rows that are cited for its parts: those behind the plan's, if it gives pages
abbrev pub serials_shown : BuildOutcome → List RowData → List ℕ
serials_shown (Done pages faults) rows = serials_in (drop 1 rows)
serials_shown (Stopped stop) rows = []
serials_shown (TooLarge total) rows = []

abbrev pub shown_by : Language → BuildMade → List ℕ
shown_by language one = serials_shown (language.clean one.state one.root one.val) one.cited

pub record IsToldAs (language : Language) (one : BuildMade) (told : BuildTold) : Type 0 where
  pub session : told.session ≡ one.session
  pub root : told.root ≡ one.root
  pub val : told.val ≡ one.val
  pub state : told.state ≡ one.state
  pub cited : told.cited ≡ shown_by language one

-- the builds of a text are these, in order
pub record AreToldAs (language : Language) (builds : List BuildMade) (told : List BuildTold) : Type 0 where
  pub count : length told ≡ length builds
  pub each : (at : ℕ) (one : BuildMade) (shown : BuildTold) → slice_get builds at ≡ Some one
      → slice_get told at ≡ Some shown → IsToldAs language one shown

-- each name that is reached has the same version
abbrev pub IsUnchanged : Language → State → State → List ℕ → Option (List ℕ) → Type 0
IsUnchanged language state other root val = (name : List ℕ) → language.Reaches state root val name
    → version_at other name ≡ version_at state name

-- In a history, what is sound of a map and a DITAVAL agrees at two places alike, if each name that is reached at the one
-- has the same version at the other.
pub record KeepsRight (means : Meaning) (language : Language) (log : List Entry) : Type 0 where
  pub forth : (place later : ℕ) (root : List ℕ) (val : Option (List ℕ))
      → IsUnchanged language (sources log place) (sources log later) root val → (fact : Fact) → means.is_sound fact
      → fact.key.map ≡ root → fact.key.val ≡ val → means.agrees fact (sources log place)
      → means.agrees fact (sources log later)
  pub back : (place later : ℕ) (root : List ℕ) (val : Option (List ℕ))
      → IsUnchanged language (sources log place) (sources log later) root val → (fact : Fact) → means.is_sound fact
      → fact.key.map ≡ root → fact.key.val ≡ val → means.agrees fact (sources log later)
      → means.agrees fact (sources log place)
