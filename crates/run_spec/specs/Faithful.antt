-- Faithful transcripts (own): what a transcript of a run of many sessions beside each other must say of its script. It
-- tells one history, in which each request stands once and in its session's order. Each reply is that of the desk on
-- one thread at its place, and each build is the clean build over what is stored at its place. The rows that it cites,
-- and the counts of its end, fit one table of finished parts, in which nothing is made twice without need.
use Rattle.std.specs.Prelude.{◌≡◌, ◌≢◌, ◌≤◌, ◌<◌, ◌+◌, ◌==◌, ℕ, Bool, true, List, [], ◌∷◌, Option, Some, Ok, All, AllPairs, Contains, count_by, flat_map, if◌then◌else◌, length, option_map, slice_get, sum, sum_by}
use Rattle.desk_language.specs.Language.{Language, bytes_of_parts}
use Rattle.dita_doc.specs.Desk.{reply, version_at}
use Rattle.dita_doc.specs.Request.{Request, Single, Get, Names, Build, Group}
use Rattle.script_text.specs.Script.{Step, script_of}
use Rattle.transcript_text.specs.Transcript.{BuildShown, EntryShown, IsTranscript, RowShown, Totals, Transcript, reply_shown, transcript_text}
use Rattle.run_spec.specs.Cites.{ShowsBuilt}
use Rattle.run_spec.specs.HistoryTold.{BuildTold, Moment, builds_told, cited_by, moments_of, step_of}
use Rattle.run_spec.specs.Language.{dita}

-- (1) The form, with an entry for each request

-- the entries have these places and those that follow, in order
abbrev pub HavePlaces : ℕ → List EntryShown → Type 0
HavePlaces place [] = Unit {0}
HavePlaces place (entry ∷ entries) = (entry.place ≡ place) × HavePlaces (place + 1) entries

-- the text is that of a transcript in the form of transcripts; its entries have the places 0, 1, 2 and so on, as many
-- as the script has requests
pub record HasEntries (steps : List Step) (transcript : Transcript) (text : List ℕ) : Type 0 where
  pub form : IsTranscript transcript
  pub is : text ≡ transcript_text transcript
  pub places : HavePlaces 0 transcript.entries
  pub count : length transcript.entries ≡ length steps

-- (2) Each request once, in its session's order

-- the number of the entry is that of a request of the script, and its session is that of this request
abbrev pub IsOfSession : List Step → EntryShown → Type 0
IsOfSession steps entry = option_map (λ (step : Step). step.session) (step_of steps entry.number) ≡ Some entry.session

-- in one session the later entry has the greater number
abbrev pub IsInOrder : EntryShown → EntryShown → Type 0
IsInOrder earlier later = earlier.session ≡ later.session → earlier.number < later.number

pub record TakesEachOnce (steps : List Step) (entries : List EntryShown) : Type 0 where
  pub sessions : All (IsOfSession steps) entries
  pub once : (number : ℕ) (step : Step) → step_of steps number ≡ Some step
      → count_by (λ (entry : EntryShown). entry.number == number) entries ≡ 1
  pub order : AllPairs IsInOrder entries

-- (3) Each reply that of the desk

-- the entry shows what the desk on one thread replies to the request of its number over what is stored at its place; of
-- a build it shows what some build gave
abbrev pub ShowsReply : Moment → Type 0
ShowsReply moment = (built : Option BuildShown)
    × (reply_shown (reply moment.state moment.place moment.step.request) built ≡ Some moment.entry.shown)

abbrev pub ShowsReplies : List Step → List EntryShown → Type 0
ShowsReplies steps entries = All ShowsReply (moments_of steps entries)

-- (4) Each build the clean build

abbrev pub ShowsBuild : Language → List RowShown → Moment → Request → Type 0
ShowsBuild language rows moment (Single edit) = Unit {0}
ShowsBuild language rows moment (Get name) = Unit {0}
ShowsBuild language rows moment Names = Unit {0}
ShowsBuild language rows moment (Build root val) =
    ShowsBuilt rows root val (language.clean moment.state root val) moment.entry.shown
ShowsBuild language rows moment (Group edits) = Unit {0}

-- each build shows what the clean build gives over what is stored at its place
abbrev pub ShowsBuilds : Language → List Step → Transcript → Type 0
ShowsBuilds language steps transcript =
    All (λ (moment : Moment). ShowsBuild language transcript.rows moment moment.step.request)
    (moments_of steps transcript.entries)

-- (5) Row lines with different serials, each cited

abbrev pub serials_cited : List EntryShown → List ℕ
serials_cited entries = flat_map (λ (entry : EntryShown). cited_by entry.shown) entries

pub record CitesEachRow (transcript : Transcript) : Type 0 where
  pub different : AllPairs (λ (row other : RowShown). row.serial ≢ other.serial) transcript.rows
  pub cited : All (λ (row : RowShown). Contains (serials_cited transcript.entries) row.serial) transcript.rows

-- (6) A build that repeats another cites the same rows

pub record IsOfOneKey (build other : BuildTold) : Type 0 where
  pub root : other.root ≡ build.root
  pub val : other.val ≡ build.val

-- The second build repeats the first, which stands before it: they are of one map, one DITAVAL and one session; no
-- other session builds this map with this DITAVAL; no build of them stands between the two; and each name that the
-- first reaches has the same version at the second.
pub record Repeats (language : Language) (builds : List BuildTold) (at later : ℕ) : Type 0 where
  pub first : BuildTold
  pub second : BuildTold
  pub is_first : slice_get builds at ≡ Some first
  pub is_second : slice_get builds later ≡ Some second
  pub before : at < later
  pub key : IsOfOneKey first second
  pub session : second.session ≡ first.session
  pub alone : (place : ℕ) (other : BuildTold) → slice_get builds place ≡ Some other → IsOfOneKey first other
      → other.session ≡ first.session
  pub next : (between : ℕ) (other : BuildTold) → at < between → between < later → slice_get builds between ≡ Some other
      → IsOfOneKey first other → ⊥
  pub unchanged : (name : List ℕ) → language.Reaches first.state first.root first.val name
      → version_at second.state name ≡ version_at first.state name

-- if no row was dropped, a build that repeats another cites the rows that the other cites
abbrev pub CitesAgain : Language → Totals → List BuildTold → Type 0
CitesAgain language totals builds = totals.dropped ≡ 0
    → (at later : ℕ) (repeats : Repeats language builds at later) → repeats.second.cited ≡ repeats.first.cited

-- (7) The counts of the end

abbrev pub table_limit : ℕ
table_limit = 1073741824

-- the bytes of the rows of a build's parts
abbrev pub bytes_of : Language → BuildTold → List ℕ
bytes_of language build = bytes_of_parts language build.state build.root build.val

-- the bytes of the rows of all parts of all builds
abbrev pub all_bytes : Language → List BuildTold → ℕ
all_bytes language builds = sum_by (λ (build : BuildTold). sum (bytes_of language build)) builds

-- how many parts builds have, without those builds that are chosen by their places
abbrev pub parts_without : Language → (ℕ → Bool) → ℕ → List BuildTold → ℕ
parts_without language chosen at [] = 0
parts_without language chosen at (build ∷ builds) =
    (if chosen at then 0 else length (bytes_of language build)) + parts_without language chosen (at + 1) builds

-- each build that is chosen repeats another, and no row was dropped
abbrev pub ChoosesRepeats : Language → Totals → List BuildTold → (ℕ → Bool) → Type 0
ChoosesRepeats language totals builds chosen = (later : ℕ) → chosen later ≡ true
    → (totals.dropped ≡ 0) × ((at : ℕ) × Repeats language builds at later)

-- The end counts the requests. No more rows are dropped than made, and none if all parts together fit the table. At
-- least as many are made as there are row lines, and at most as many as the builds have parts: a build that repeats
-- another counts for none.
pub record CountsRight (language : Language) (steps : List Step) (transcript : Transcript) (builds : List BuildTold)
    : Type 0 where
  pub entries : transcript.totals.entries ≡ length steps
  pub fewer : transcript.totals.dropped ≤ transcript.totals.made
  pub fits : all_bytes language builds ≤ table_limit → transcript.totals.dropped ≡ 0
  pub rows : length transcript.rows ≤ transcript.totals.made
  pub most : (chosen : ℕ → Bool) → ChoosesRepeats language transcript.totals builds chosen
      → transcript.totals.made ≤ parts_without language chosen 0 builds

-- The whole

-- a text is faithful to the requests of a script
pub record IsFaithful (language : Language) (steps : List Step) (text : List ℕ) : Type 0 where
  pub transcript : Transcript
  pub entries : HasEntries steps transcript text
  pub requests : TakesEachOnce steps transcript.entries
  pub replies : ShowsReplies steps transcript.entries
  pub builds : ShowsBuilds language steps transcript
  pub rows : CitesEachRow transcript
  pub again : CitesAgain language transcript.totals (builds_told steps transcript.entries)
  pub counts : CountsRight language steps transcript (builds_told steps transcript.entries)

-- a text is a faithful transcript of a script of documents: of the bytes of the script, and of the bytes of the text
pub record IsFaithfulTo (script text : List ℕ) : Type 0 where
  pub steps : List Step
  pub are : script_of script ≡ Ok steps
  pub faithful : IsFaithful dita steps text
