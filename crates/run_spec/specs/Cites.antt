-- What a transcript shows of a build that cites rows (own): what the clean build over what is stored gives, each page
-- by a row line that has its bytes.
use Rattle.std.specs.Prelude.{◌≡◌, ◌+◌, ℕ, List, [], ◌∷◌, Option, Contains, flat_map, map}
use Rattle.build_spec.specs.Built.{BuildOutcome, Page, Done, Stopped, TooLarge}
use Rattle.dita_doc.specs.Lines.{line}
use Rattle.transcript_text.specs.Transcript.{BuiltPages, StoppedBy, PagesTooLarge, OfBuild, InRow, PageShown, PartShown, IsPage, IsContents, RowShown, Shown, fault_shown}

-- the page line of a part names its page and a row; among the row lines is one of this row, of this part, of the
-- build's map and DITAVAL, whose lines are the page's bytes
pub record CitesPage (rows : List RowShown) (root : List ℕ) (val : Option (List ℕ)) (part : PartShown) (page : Page)
    (shown : PageShown) : Type 0 where
  pub named : shown.name ≡ page.0
  pub serial : ℕ
  pub cited : shown.mark ≡ InRow serial
  pub lines : List (List ℕ)
  pub bytes : flat_map line lines ≡ page.1
  pub stands : Contains rows
      (record { serial = serial; part = part; map = root; val = val; lines = lines })

-- a page line for each page, in order, from the page of this index on; the last is that of the contents page
abbrev pub CitePages : List RowShown → List ℕ → Option (List ℕ) → ℕ → List Page → List PageShown → Type 0
CitePages rows root val index [] [] = Unit {0}
CitePages rows root val index [] (told ∷ more) = ⊥
CitePages rows root val index (page ∷ pages) [] = ⊥
CitePages rows root val index (page ∷ []) (told ∷ more) = CitesPage rows root val IsContents page told × (more ≡ [])
CitePages rows root val index (page ∷ next ∷ pages) (told ∷ more) =
    CitesPage rows root val (IsPage index) page told × CitePages rows root val (index + 1) (next ∷ pages) more

-- a build of this map and DITAVAL is shown: why it is stopped; how large it is; or its pages, and behind them its
-- faults
abbrev pub ShowsBuilt : List RowShown → List ℕ → Option (List ℕ) → BuildOutcome → Shown → Type 0
ShowsBuilt rows root val (Stopped stop) shown = shown ≡ OfBuild (StoppedBy stop)
ShowsBuilt rows root val (TooLarge total) shown = shown ≡ OfBuild (PagesTooLarge total)
ShowsBuilt rows root val (Done pages faults) shown = (told : List PageShown)
    × (shown ≡ OfBuild (BuiltPages told (map fault_shown faults))) × CitePages rows root val 0 pages told
