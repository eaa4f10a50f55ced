-- The history that a transcript tells: its entries in the order of the text, each with the request that its number has
-- in the script, answered over what the entries before it have stored. No reply is read back from the text.
use Rattle.std.specs.Prelude.{◌+◌, ℕ, zero, suc, List, [], ◌∷◌, ◌++◌, Option, Some, None, map, option_map, slice_get, filter_map}
use Rattle.std.specs.Option.{option_to_list}
use Rattle.dita_doc.specs.Desk.{State, reply, next}
use Rattle.dita_doc.specs.History.{Entry}
use Rattle.dita_doc.specs.Request.{Request, Single, Get, Names, Build, Group}
use Rattle.script_text.specs.Script.{Step}
use Rattle.transcript_text.specs.Transcript.{EntryShown, PageMark, InOutlet, InRow, PageShown, BuildShown, BuiltPages, StoppedBy, PagesTooLarge, Shown, StoredAt, RemovedAt, Refuses, GroupedAs, StoppedAt, Lines, Names as NamesShown, OfBuild}

-- the request of a number: the first has number 1
abbrev pub step_of : List Step → ℕ → Option Step
step_of steps zero = None
step_of steps (suc place) = slice_get steps place

-- Entries at their places

-- an entry of the text: its place in the order of the text, what is stored there, and the request of its number
pub record Moment : Type 0 where
  pub place : ℕ
  pub state : State
  pub step : Step
  pub entry : EntryShown

abbrev pub moment_with : State → ℕ → EntryShown → Step → Moment
moment_with state place entry step = record { place = place; state = state; step = step; entry = entry }

abbrev pub next_with : State → ℕ → Option Step → State
next_with state place None = state
next_with state place (Some step) = next state place step.request

-- entries from this place on, over what is stored before them
abbrev pub moments_from : List Step → State → ℕ → List EntryShown → List Moment
moments_from steps state place [] = []
moments_from steps state place (entry ∷ entries) =
    let step = step_of steps entry.number in
    option_to_list (option_map (moment_with state place entry) step)
    ++ moments_from steps (next_with state place step) (place + 1) entries

-- the entries of a text, from a desk with nothing stored
abbrev pub moments_of : List Step → List EntryShown → List Moment
moments_of steps entries = moments_from steps [] 0 entries

-- The history

abbrev pub entry_told : Moment → Entry
entry_told moment = record {
  session = moment.entry.session;
  number = moment.entry.number;
  request = moment.step.request;
  reply = reply moment.state moment.place moment.step.request;
}

abbrev pub history_told : List Step → List EntryShown → List Entry
history_told steps entries = map entry_told (moments_of steps entries)

-- The builds

-- the serials of the rows that an entry cites: those of its page lines, in order
abbrev pub serial_in : PageMark → Option ℕ
serial_in (InOutlet bytes) = None
serial_in (InRow serial) = Some serial

abbrev pub cited_by_build : BuildShown → List ℕ
cited_by_build (BuiltPages pages faults) = filter_map (λ (page : PageShown). serial_in page.mark) pages
cited_by_build (StoppedBy stop) = []
cited_by_build (PagesTooLarge total) = []

abbrev pub cited_by : Shown → List ℕ
cited_by (StoredAt version) = []
cited_by (RemovedAt version) = []
cited_by (Refuses refusal) = []
cited_by (GroupedAs edits) = []
cited_by (StoppedAt number refusal) = []
cited_by (Lines lines) = []
cited_by (NamesShown names) = []
cited_by (OfBuild built) = cited_by_build built

-- a build of the text: whose it is, of which map and DITAVAL, over what is stored, and the rows that it cites
pub record BuildTold : Type 0 where
  pub session : ℕ
  pub root : List ℕ
  pub val : Option (List ℕ)
  pub state : State
  pub cited : List ℕ

abbrev pub build_of_request : State → EntryShown → Request → Option BuildTold
build_of_request state entry (Single edit) = None
build_of_request state entry (Get name) = None
build_of_request state entry Names = None
build_of_request state entry (Build root val) = Some (record {
  session = entry.session;
  root = root;
  val = val;
  state = state;
  cited = cited_by entry.shown;
})
build_of_request state entry (Group edits) = None

abbrev pub build_at : Moment → Option BuildTold
build_at moment = build_of_request moment.state moment.entry moment.step.request

-- the builds of a text, in its order
abbrev pub builds_told : List Step → List EntryShown → List BuildTold
builds_told steps entries = filter_map build_at (moments_of steps entries)
