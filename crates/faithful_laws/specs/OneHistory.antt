-- What faithful transcripts say of their history, and of each other.
use Rattle.std.specs.Prelude.{◌≡◌, ◌<◌, ◌==◌, ℕ, List, Some, All, AllPairs, count_by, length, map, slice_get}
use Rattle.dita_doc.specs.History.{Entry, IsLegal, sources}
use Rattle.script_text.specs.Script.{Step}
use Rattle.transcript_text.specs.Transcript.{BuildShown, BuiltPages, StoppedBy, PagesTooLarge, EntryShown, InRow, PageShown, Shown, StoredAt, RemovedAt, Refuses, GroupedAs, StoppedAt, Lines, Names, OfBuild}
use Rattle.run_spec.specs.HistoryTold.{Moment, history_told, moments_of, step_of}

abbrev pub Steps : Type 0
Steps = List Step

-- the history is legal, has an entry for each request, and at each place is stored what the entries before it have
-- stored
pub record TellsOneHistory (steps : List Step) (entries : List EntryShown) : Type 0 where
  pub legal : IsLegal (history_told steps entries)
  pub each : length (history_told steps entries) ≡ length steps
  pub stored : (place : ℕ) (moment : Moment) → slice_get (moments_of steps entries) place ≡ Some moment
      → moment.state ≡ sources (history_told steps entries) place

-- the request of an entry is the script's of its number, and is of its session
abbrev pub IsOfRequest : List Step → Entry → Type 0
IsOfRequest steps entry =
    step_of steps entry.number ≡ Some (record { session = entry.session; request = entry.request })

-- in one session the later entry has the greater number
abbrev pub IsEarlier : Entry → Entry → Type 0
IsEarlier earlier later = earlier.session ≡ later.session → earlier.number < later.number

-- each entry is a request of the script, each request stands once, and those of one session stand in its order
pub record KeepsOrder (steps : List Step) (history : List Entry) : Type 0 where
  pub each : All (IsOfRequest steps) history
  pub once : (number : ℕ) (step : Step) → step_of steps number ≡ Some step
      → count_by (λ (entry : Entry). entry.number == number) history ≡ 1
  pub order : AllPairs IsEarlier history

-- the numbers of entries, in order
abbrev pub numbers : List EntryShown → List ℕ
numbers entries = map (λ (entry : EntryShown). entry.number) entries

-- an entry whose page lines have no serials of their own

abbrev pub page_alone : PageShown → PageShown
page_alone page = record { name = page.name; mark = InRow 0 }

abbrev pub build_alone : BuildShown → BuildShown
build_alone (BuiltPages pages faults) = BuiltPages (map page_alone pages) faults
build_alone (StoppedBy stop) = StoppedBy stop
build_alone (PagesTooLarge total) = PagesTooLarge total

abbrev pub shown_alone : Shown → Shown
shown_alone (StoredAt version) = StoredAt version
shown_alone (RemovedAt version) = RemovedAt version
shown_alone (Refuses refusal) = Refuses refusal
shown_alone (GroupedAs edits) = GroupedAs edits
shown_alone (StoppedAt number refusal) = StoppedAt number refusal
shown_alone (Lines lines) = Lines lines
shown_alone (Names names) = Names names
shown_alone (OfBuild built) = OfBuild (build_alone built)

abbrev pub entry_alone : EntryShown → EntryShown
entry_alone entry = record {
  place = entry.place;
  session = entry.session;
  number = entry.number;
  shown = shown_alone entry.shown;
}

-- the entries differ in the serials of their page lines alone
abbrev pub DifferInSerials : List EntryShown → List EntryShown → Type 0
DifferInSerials entries others = map entry_alone entries ≡ map entry_alone others
