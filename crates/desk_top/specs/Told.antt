-- What the transcript of a batch tells (own): the entries of one history in order, each with what is shown of its
-- build, and the rows that builds cite.
use Rattle.std.specs.Prelude.{◌≡◌, ◌<◌, ◌++◌, ℕ, Bool, true, false, List, Option, Some, None, get_or, is_some, length, map, slice_get}
use Rattle.std.specs.List.{All, flat_map}
use Rattle.std.specs.Option.{option_map_or}
use Rattle.std.specs.Str.{is_utf8}
use Rattle.dita_doc.specs.Bytes.{Bytes}
use Rattle.dita_doc.specs.History.{Entry, sources}
use Rattle.dita_doc.specs.Request.{Build}
use Rattle.facts.specs.Rows.{row_data}
use Rattle.facts.specs.declared.row.Row.{Row}
use Rattle.row_text.specs.RowWritten.{HasPage, bytes_of, row_shown}
use Rattle.run_spec.specs.Cites.{ShowsBuilt}
use Rattle.run_spec.specs.Faithful.{CitesEachRow}
use Rattle.run_spec.specs.Language.{dita}
use Rattle.transcript_text.specs.Transcript.{BuildShown, EntryShown, IsEntryShown, IsRowShown, IsTranscript, RowShown, Transcript, entry_shown, entry_text, row_text, transcript_text}
use Rattle.transcript_text.specs.Written.{built_shown}
use Rattle.transcript_text.specs.declared.built.BuiltText.{BuiltText}
use Rattle.desk_top.specs.Served.{is_build}

-- The whole

-- the entry at this place, with what is shown of a build or without, in the form of transcripts
pub record IsTold (log : List Entry) (place : ℕ) (told : EntryShown) : Type 0 where
  pub entry : Entry
  pub stands : slice_get log place ≡ Some entry
  pub built : Option BuildShown
  pub shown : entry_shown place entry built ≡ Some told
  pub form : IsEntryShown told

-- the first entries of a history, in order
abbrev pub AreTold : List Entry → List EntryShown → Type 0
AreTold log told = (place : ℕ) (entry : EntryShown) → slice_get told place ≡ Some entry → IsTold log place entry

-- each build shows what the clean build gives over what is stored at its place, by rows of the text
abbrev pub ShowBuilds : List Entry → List EntryShown → List RowShown → Type 0
ShowBuilds log told rows = (place : ℕ) (entry : Entry) (shown : EntryShown) (root : List ℕ) (val : Option (List ℕ))
    → slice_get log place ≡ Some entry → slice_get told place ≡ Some shown → entry.request ≡ Build root val
    → ShowsBuilt rows root val (dita.clean (sources log place) root val) shown.shown

-- the text is a transcript of all entries of this history, in the form of transcripts, and its end counts them; it has
-- a row of each serial once, and each is cited
pub record TellsHistory (log : List Entry) (text : Bytes) : Type 0 where
  pub transcript : Transcript
  pub form : IsTranscript transcript
  pub are : AreTold log transcript.entries
  pub count : length transcript.entries ≡ length log
  pub builds : ShowBuilds log transcript.entries transcript.rows
  pub rows : CitesEachRow transcript
  pub entries : transcript.totals.entries ≡ length log
  pub is : text ≡ transcript_text transcript

-- Entries

abbrev pub is_build_at : List Entry → ℕ → Bool
is_build_at log place = option_map_or (λ (entry : Entry). is_build entry.request) (slice_get log place) false

-- something is shown for each build of a history, and for nothing else
abbrev pub AreOfBuilds : List Entry → List (Option BuiltText) → Type 0
AreOfBuilds log shown = (place : ℕ) → place < length log → is_some (get_or shown place None) ≡ is_build_at log place

-- the entry at this place is told, and this is what is shown of its build
pub record IsToldOf (log : List Entry) (place : ℕ) (built : Option BuiltText) (told : EntryShown) : Type 0 where
  pub is : IsTold log place told
  pub shows : is.built ≡ built_shown built

abbrev pub AreToldOf : List Entry → List (Option BuiltText) → List EntryShown → Type 0
AreToldOf log shown told = (place : ℕ) (entry : EntryShown) → slice_get told place ≡ Some entry
    → IsToldOf log place (get_or shown place None) entry

-- one entry stands behind the text
pub record TellsEntry (log : List Entry) (place : ℕ) (built : Option BuiltText) (old new : Bytes) : Type 0 where
  pub told : EntryShown
  pub is : IsToldOf log place built told
  pub text : new ≡ old ++ entry_text told

-- so many entries stand behind the text
pub record TellsEntries (log : List Entry) (shown : List (Option BuiltText)) (many : ℕ) (old new : Bytes) : Type 0 where
  pub told : List EntryShown
  pub are : AreToldOf log shown told
  pub count : length told ≡ many
  pub text : new ≡ old ++ flat_map entry_text told

-- Rows

-- a row has its page, which is UTF-8
pub record HasUtf8Page (row : Row) : Type 0 where
  pub page : HasPage (row_data row).fact
  pub utf8 : is_utf8 (bytes_of (row_data row).fact) ≡ true

-- the lines that a row shows
abbrev pub row_seen : Row → Option RowShown
row_seen row = row_shown (row_data row)

-- one row stands behind the text
pub record TellsRow (row : Row) (old new : Bytes) : Type 0 where
  pub shown : RowShown
  pub is : row_seen row ≡ Some shown
  pub form : IsRowShown shown
  pub text : new ≡ old ++ row_text shown

-- all rows but those that are left stand behind the text, in order
pub record TellsRows (rows left : List Row) (old new : Bytes) : Type 0 where
  pub shown : List RowShown
  pub are : map Some shown ++ map row_seen left ≡ map row_seen rows
  pub form : All IsRowShown shown
  pub text : new ≡ old ++ flat_map row_text shown
