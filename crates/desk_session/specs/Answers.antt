-- What a session answers (own). Each request that is read is one entry of the history, and its answer is the text of
-- this entry, as it stands in a transcript. Behind the answer to a build that gave pages stands, for each page line,
-- the text of the row that it names.
use Rattle.std.specs.Prelude.{◌≡◌, ◌≤◌, ◌+◌, ℕ, true, List, [], ◌∷◌, Option, None, Some, All, flat_map, map, slice_get}
use Rattle.build_spec.specs.Built.{BuildOutcome, Done, Page, Stopped, TooLarge, built_pages}
use Rattle.dita_doc.specs.Bytes.{Bytes}
use Rattle.dita_doc.specs.Desk.{Reply, State, reply}
use Rattle.dita_doc.specs.History.{Entry, sources}
use Rattle.dita_doc.specs.Lines.{ends_with_line, line, lines_of}
use Rattle.dita_doc.specs.Request.{Build, Get, Group, Names, Request, Single}
use Rattle.transcript_text.specs.Transcript.{BuiltPages, InRow, IsContents, IsPage, OfBuild, PageShown, PagesTooLarge, PartShown, RowShown, Shown, StoppedBy, entry_text, entry_with, fault_shown, reply_shown, row_text}

-- Builds

-- the row keeps this part of a build of this map with this DITAVAL, and has the page's bytes as its lines, cut at each LF
pub record KeepsPage (root : List ℕ) (val : Option (List ℕ)) (part : PartShown) (page : Page) (row : RowShown)
    : Type 0 where
  pub part_is : row.part ≡ part
  pub map_is : row.map ≡ root
  pub val_is : row.val ≡ val
  pub bytes : flat_map line row.lines ≡ page.1
  pub lines : row.lines ≡ lines_of page.1

-- there is a row for each page, in order, from the page of this index on; the last page is the contents page
abbrev pub KeepPages : List ℕ → Option (List ℕ) → ℕ → List Page → List RowShown → Type 0
KeepPages root val index [] [] = Unit {0}
KeepPages root val index [] (row ∷ rows) = ⊥
KeepPages root val index (page ∷ pages) [] = ⊥
KeepPages root val index (page ∷ []) (row ∷ rows) = KeepsPage root val IsContents page row × (rows ≡ [])
KeepPages root val index (page ∷ next ∷ pages) (row ∷ rows) =
    KeepsPage root val (IsPage index) page row × KeepPages root val (index + 1) (next ∷ pages) rows

-- the page lines: the name of each page, and the serial of its row
abbrev pub page_lines : List Page → List RowShown → List PageShown
page_lines [] rows = []
page_lines (page ∷ pages) [] = []
page_lines (page ∷ pages) (row ∷ rows) =
    record { name = page.0; mark = InRow row.serial } ∷ page_lines pages rows

-- what is shown of a build, and the rows that it names
abbrev pub ShowsBuild : List ℕ → Option (List ℕ) → BuildOutcome → Shown → List RowShown → Type 0
ShowsBuild root val (Done pages faults) shown rows = KeepPages root val 0 pages rows
    × (shown ≡ OfBuild (BuiltPages (page_lines pages rows) (map fault_shown faults)))
ShowsBuild root val (Stopped stop) shown rows = (shown ≡ OfBuild (StoppedBy stop)) × (rows ≡ [])
ShowsBuild root val (TooLarge total) shown rows = (shown ≡ OfBuild (PagesTooLarge total)) × (rows ≡ [])

-- what the build of a map with a DITAVAL gives over what is stored
abbrev pub CleanBuild : Type 0
CleanBuild = State → List ℕ → Option (List ℕ) → BuildOutcome

-- each page of each build is lines, and each of them is ended
abbrev pub PagesEndWithLine : CleanBuild → Type 0
PagesEndWithLine clean = (state : State) (root : List ℕ) (val : Option (List ℕ))
    → All (λ (page : Page). ends_with_line page.1 ≡ true) (built_pages (clean state root val))

-- what is shown of a request with this reply, and the rows that it names: of a build what the clean build gives
abbrev pub ShowsReply : CleanBuild → State → Request → Reply → Shown → List RowShown → Type 0
ShowsReply clean state (Build root val) answer shown rows = ShowsBuild root val (clean state root val) shown rows
ShowsReply clean state (Single edit) answer shown rows = (reply_shown answer None ≡ Some shown) × (rows ≡ [])
ShowsReply clean state (Get name) answer shown rows = (reply_shown answer None ≡ Some shown) × (rows ≡ [])
ShowsReply clean state Names answer shown rows = (reply_shown answer None ≡ Some shown) × (rows ≡ [])
ShowsReply clean state (Group edits) answer shown rows = (reply_shown answer None ≡ Some shown) × (rows ≡ [])

-- Requests in the history

-- what a session is over: the clean build; the history, as the session saw it last; which rows are known; the session's
-- number; and behind how many entries of the history its own stand
pub record SessionBasis : Type 1 where
  pub clean : CleanBuild
  pub history : List Entry
  pub IsKnown : RowShown → Type 0
  pub session : ℕ
  pub behind : ℕ

-- the entry that a request of this number has, answered by the desk over what is stored at this place
abbrev pub entry_of : SessionBasis → ℕ → Request → ℕ → Entry
entry_of on number request place = record {
  session = on.session;
  number = number;
  request = request;
  reply = reply (sources on.history place) place request;
}

-- a request that was answered: its place, what is shown of its entry, and the rows that it names
pub record SessionAnswer : Type 0 where
  pub place : ℕ
  pub entry : Entry
  pub shown : Shown
  pub rows : List RowShown

-- this request of the session was answered, under this number
pub record IsAnswered (on : SessionBasis) (number : ℕ) (request : Request) (answered : SessionAnswer) : Type 0 where
  pub entry_is : answered.entry ≡ entry_of on number request answered.place
  pub stands : slice_get on.history answered.place ≡ Some answered.entry
  pub shows : ShowsReply on.clean (sources on.history answered.place) request answered.entry.reply answered.shown
      answered.rows
  pub known : All on.IsKnown answered.rows

-- so were these requests, in order, with this number and those that follow, each behind the place of the one before
abbrev pub AreAnswered : SessionBasis → ℕ → ℕ → List Request → List SessionAnswer → Type 0
AreAnswered on number behind [] [] = Unit {0}
AreAnswered on number behind [] (answered ∷ more) = ⊥
AreAnswered on number behind (request ∷ requests) [] = ⊥
AreAnswered on number behind (request ∷ requests) (answered ∷ more) = IsAnswered on number request answered
    × (behind ≤ answered.place) × AreAnswered on (number + 1) (answered.place + 1) requests more

-- Messages

-- the text of the entry, and then the text of each row
abbrev pub messages_of : SessionAnswer → List Bytes
messages_of answered = entry_text (entry_with answered.place answered.entry answered.shown) ∷ map row_text answered.rows

abbrev pub all_messages : List SessionAnswer → List Bytes
all_messages answers = flat_map messages_of answers

abbrev pub places_of : List SessionAnswer → List ℕ
places_of answers = map (λ (answered : SessionAnswer). answered.place) answers
