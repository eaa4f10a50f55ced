-- The transcript of a run (own): a head, the entries by place, the rows by serial, and an end. An entry and a row have
-- their own line, and then a line with `|` in front for each line of what they show. Numbers are decimals without zeros
-- before them.
use Rattle.std.specs.Prelude.{◌≡◌, ◌≤◌, ◌<◌, ◌^◌, ◌++◌, ℕ, true, List, [], ◌∷◌, Option, Some, None, length, codes, map, option_map, All}
use Rattle.std.specs.Fmt.{decimal}
use Rattle.std.specs.List.{flat_map}
use Rattle.std.specs.Str.{is_utf8}
use Rattle.dita_doc.specs.declared.fault.Fault.{Fault}
use Rattle.dita_doc.specs.declared.fault.FaultCode.{FaultCode}
use Rattle.dita_doc.specs.declared.fault.PyxCode.{PyxCode}
use Rattle.dita_doc.specs.declared.plan.PlanStop.{PlanStop}
use Rattle.dita_doc.specs.declared.plan.PlanStop.TheVariants as stops
use Rattle.dita_doc.specs.PyxEscapes.{escaped}
use Rattle.dita_doc.specs.Faults.{pyx_code_text}
use Rattle.dita_doc.specs.Lines.{lines_of, line, IsLineText}
use Rattle.dita_doc.specs.Name.{is_name}
use Rattle.dita_doc.specs.Desk.{Refusal, BodyFault, OtherVersion, NotStored, NoRoom, Reply, IsStored, IsRemoved, Bytes, NameList, IsRefused, Conflict, Absent, TooManyNames, Begun, IsGrouped, IsStopped, stored_limit}
use Rattle.dita_doc.specs.History.{Entry}
use Rattle.fault_report.specs.FaultLine.{line_of}

-- What an entry shows

-- where the bytes of a page are: in the outlet, so many of them, or in a row
pub data PageMark : Type 0 where
  InOutlet : (bytes : ℕ) → PageMark
  InRow : (serial : ℕ) → PageMark

pub record PageShown : Type 0 where
  pub name : List ℕ
  pub mark : PageMark

-- a fault, whose detail has its escapes and may be empty
pub record FaultShown : Type 0 where
  pub name : List ℕ
  pub line : ℕ
  pub code : FaultCode
  pub detail : List ℕ

-- what a build gave
pub data BuildShown : Type 0 where
  BuiltPages : (pages : List PageShown) (faults : List FaultShown) → BuildShown
  StoppedBy : PlanStop → BuildShown
  PagesTooLarge : (total : ℕ) → BuildShown

-- why a request is refused, or an edit of a group
pub data RefusalShown : Type 0 where
  RefusedFor : (code : PyxCode) (line : ℕ) → RefusalShown
  ConflictAt : (version : ℕ) → RefusalShown
  IsAbsent : RefusalShown
  IsFull : RefusalShown

-- what a reply is, and of a build what it gave
pub data Shown : Type 0 where
  StoredAt : (version : ℕ) → Shown
  RemovedAt : (version : ℕ) → Shown
  Refuses : RefusalShown → Shown
  GroupedAs : (edits : ℕ) → Shown
  StoppedAt : (number : ℕ) (refusal : RefusalShown) → Shown
  Lines : (lines : List (List ℕ)) → Shown
  Names : (names : List (List ℕ × ℕ)) → Shown
  OfBuild : BuildShown → Shown

abbrev pub stop_text : PlanStop → List ℕ
stop_text stops.NoMap = codes "nomap"
stop_text stops.NotMap = codes "notmap"
stop_text stops.NoDitaval = codes "noditaval"
stop_text stops.TooManyNodes = codes "toomanynodes"
stop_text stops.TooManyPages = codes "toomanypages"

abbrev pub built_words : BuildShown → List ℕ
built_words (BuiltPages pages faults) = codes "built " ++ decimal (length pages) ++ codes " " ++ decimal (length faults)
built_words (StoppedBy stop) = stop_text stop
built_words (PagesTooLarge total) = codes "toolarge " ++ decimal total

abbrev pub refusal_words : RefusalShown → List ℕ
refusal_words (RefusedFor code number) = codes "refused " ++ pyx_code_text code ++ codes " " ++ decimal number
refusal_words (ConflictAt version) = codes "conflict " ++ decimal version
refusal_words IsAbsent = codes "absent"
refusal_words IsFull = codes "toomanynames " ++ decimal stored_limit

-- the words of an entry's line behind its three numbers
abbrev pub shown_words : Shown → List ℕ
shown_words (StoredAt version) = codes "stored " ++ decimal version
shown_words (RemovedAt version) = codes "removed " ++ decimal version
shown_words (Refuses refusal) = refusal_words refusal
shown_words (GroupedAs edits) = codes "grouped " ++ decimal edits
shown_words (StoppedAt number refusal) = codes "stopped " ++ decimal number ++ codes " " ++ refusal_words refusal
shown_words (Lines lines) = codes "text " ++ decimal (length lines)
shown_words (Names names) = codes "names " ++ decimal (length names)
shown_words (OfBuild built) = built_words built

abbrev pub name_line : List ℕ × ℕ → List ℕ
name_line named = named.0 ++ codes " " ++ decimal named.1

abbrev pub mark_words : PageMark → List ℕ
mark_words (InOutlet bytes) = codes "bytes " ++ decimal bytes
mark_words (InRow serial) = codes "row " ++ decimal serial

abbrev pub page_line : PageShown → List ℕ
page_line page = codes "page " ++ page.name ++ codes " " ++ mark_words page.mark

abbrev pub fault_line : FaultShown → List ℕ
fault_line fault = line_of fault.name fault.line fault.code fault.detail

abbrev pub built_lines : BuildShown → List (List ℕ)
built_lines (BuiltPages pages faults) = map page_line pages ++ map fault_line faults
built_lines (StoppedBy stop) = []
built_lines (PagesTooLarge total) = []

-- the lines below an entry, without the `|` in front
abbrev pub shown_lines : Shown → List (List ℕ)
shown_lines (StoredAt version) = []
shown_lines (RemovedAt version) = []
shown_lines (Refuses refusal) = []
shown_lines (GroupedAs edits) = []
shown_lines (StoppedAt number refusal) = []
shown_lines (Lines lines) = lines
shown_lines (Names names) = map name_line names
shown_lines (OfBuild built) = built_lines built

-- The whole text

abbrev pub bar_line : List ℕ → List ℕ
bar_line text = line (codes "|" ++ text)

pub record EntryShown : Type 0 where
  pub place : ℕ
  pub session : ℕ
  pub number : ℕ
  pub shown : Shown

abbrev pub entry_head : EntryShown → List ℕ
entry_head entry = codes "entry " ++ decimal entry.place ++ codes " " ++ decimal entry.session ++ codes " "
    ++ decimal entry.number ++ codes " " ++ shown_words entry.shown

abbrev pub entry_text : EntryShown → List ℕ
entry_text entry = line (entry_head entry) ++ flat_map bar_line (shown_lines entry.shown)

-- what a row is a part of: a page of this index, or the contents page
pub data PartShown : Type 0 where
  IsPage : (index : ℕ) → PartShown
  IsContents : PartShown

abbrev pub part_text : PartShown → List ℕ
part_text (IsPage index) = codes "page"
part_text IsContents = codes "contents"

abbrev pub part_index : PartShown → ℕ
part_index (IsPage index) = index
part_index IsContents = 0

pub record RowShown : Type 0 where
  pub serial : ℕ
  pub part : PartShown
  pub map : List ℕ
  pub val : Option (List ℕ)
  pub lines : List (List ℕ)

abbrev pub val_text : Option (List ℕ) → List ℕ
val_text None = codes "-"
val_text (Some val) = val

abbrev pub row_head : RowShown → List ℕ
row_head row =
    codes "row " ++ decimal row.serial ++ codes " " ++ part_text row.part ++ codes " " ++ row.map ++ codes " "
    ++ val_text row.val ++ codes " "
    ++ decimal (part_index row.part) ++ codes " " ++ decimal (length row.lines)

abbrev pub row_text : RowShown → List ℕ
row_text row = line (row_head row) ++ flat_map bar_line row.lines

-- how many entries there are, and how many rows were made and dropped
pub record Totals : Type 0 where
  pub entries : ℕ
  pub made : ℕ
  pub dropped : ℕ

abbrev pub end_head : Totals → List ℕ
end_head totals = codes "end " ++ decimal totals.entries ++ codes " " ++ decimal totals.made ++ codes " "
    ++ decimal totals.dropped

pub record Transcript : Type 0 where
  pub entries : List EntryShown
  pub rows : List RowShown
  pub totals : Totals

abbrev pub head_text : List ℕ
head_text = line (codes "dita transcript 1")

abbrev pub transcript_text : Transcript → List ℕ
transcript_text transcript =
    head_text ++ flat_map entry_text transcript.entries ++ flat_map row_text transcript.rows
    ++ line (end_head transcript.totals)

-- The form

-- a number fits its type
abbrev pub Fits64 : ℕ → Type 0
Fits64 n = n < 2 ^ 64

abbrev pub Fits32 : ℕ → Type 0
Fits32 n = n < 2 ^ 32

pub record IsNameShown (name : List ℕ) : Type 0 where
  pub named : is_name name ≡ true
  pub utf8 : is_utf8 name ≡ true

pub record IsNameLine (named : List ℕ × ℕ) : Type 0 where
  pub name : IsNameShown named.0
  pub version : Fits64 named.1

abbrev pub IsMark : PageMark → Type 0
IsMark (InOutlet bytes) = Fits64 bytes
IsMark (InRow serial) = Fits64 serial

pub record IsPageShown (page : PageShown) : Type 0 where
  pub name : IsNameShown page.name
  pub mark : IsMark page.mark

pub record IsFaultShown (fault : FaultShown) : Type 0 where
  pub name : IsNameShown fault.name
  pub line : Fits32 fault.line
  pub detail : IsLineText fault.detail

abbrev pub IsBuildShown : BuildShown → Type 0
IsBuildShown (BuiltPages pages faults) = Fits64 (length pages) × Fits64 (length faults) × All IsPageShown pages
    × All IsFaultShown faults
IsBuildShown (StoppedBy stop) = Unit {0}
IsBuildShown (PagesTooLarge total) = Fits64 total

abbrev pub IsRefusalShown : RefusalShown → Type 0
IsRefusalShown (RefusedFor code number) = Fits32 number
IsRefusalShown (ConflictAt version) = Fits64 version
IsRefusalShown IsAbsent = Unit {0}
IsRefusalShown IsFull = Unit {0}

abbrev pub IsShown : Shown → Type 0
IsShown (StoredAt version) = Fits64 version
IsShown (RemovedAt version) = Fits64 version
IsShown (Refuses refusal) = IsRefusalShown refusal
IsShown (GroupedAs edits) = Fits32 edits
IsShown (StoppedAt number refusal) = Fits32 number × IsRefusalShown refusal
IsShown (Lines lines) = Fits64 (length lines) × All IsLineText lines
IsShown (Names names) = Fits64 (length names) × All IsNameLine names
IsShown (OfBuild built) = IsBuildShown built

pub record IsEntryShown (entry : EntryShown) : Type 0 where
  pub place : Fits64 entry.place
  pub session : Fits32 entry.session
  pub number : Fits32 entry.number
  pub shown : IsShown entry.shown

abbrev pub IsValShown : Option (List ℕ) → Type 0
IsValShown None = Unit {0}
IsValShown (Some val) = IsNameShown val

pub record IsRowShown (row : RowShown) : Type 0 where
  pub serial : Fits64 row.serial
  pub index : Fits32 (part_index row.part)
  pub map : IsNameShown row.map
  pub val : IsValShown row.val
  pub count : Fits64 (length row.lines)
  pub lines : All IsLineText row.lines

-- the serials never fall, from this one on
abbrev pub NeverFall : ℕ → List RowShown → Type 0
NeverFall serial [] = Unit {0}
NeverFall serial (row ∷ rows) = (serial ≤ row.serial) × NeverFall row.serial rows

pub record IsTranscript (transcript : Transcript) : Type 0 where
  pub entries : All IsEntryShown transcript.entries
  pub rows : All IsRowShown transcript.rows
  pub rising : NeverFall 0 transcript.rows
  pub counted : Fits64 transcript.totals.entries
  pub made : Fits64 transcript.totals.made
  pub dropped : Fits64 transcript.totals.dropped

-- The transcript of entries

-- a fault of a build, as it is shown
abbrev pub fault_shown : Fault → FaultShown
fault_shown fault = record { name = fault.name; line = fault.line; code = fault.code; detail = escaped fault.detail }

-- why an edit of a group is refused, as it is shown
abbrev pub refusal_shown : Refusal → RefusalShown
refusal_shown (BodyFault fault) = RefusedFor fault.code fault.line
refusal_shown (OtherVersion version) = ConflictAt version
refusal_shown NotStored = IsAbsent
refusal_shown (NoRoom limit) = IsFull

-- what is shown of a build is there exactly for the reply that a build has its place: else nothing is shown
abbrev pub unless_built : Option BuildShown → Shown → Option Shown
unless_built None shown = Some shown
unless_built (Some built) shown = None

-- what the reply of an entry shows
abbrev pub reply_shown : Reply → Option BuildShown → Option Shown
reply_shown (IsStored version) built = unless_built built (StoredAt version)
reply_shown (IsRemoved version) built = unless_built built (RemovedAt version)
reply_shown (Bytes bytes) built = unless_built built (Lines (lines_of bytes))
reply_shown (NameList names) built = unless_built built (Names names)
reply_shown (IsRefused fault) built = unless_built built (Refuses (RefusedFor fault.code fault.line))
reply_shown (Conflict version) built = unless_built built (Refuses (ConflictAt version))
reply_shown Absent built = unless_built built (Refuses IsAbsent)
reply_shown (TooManyNames limit) built = unless_built built (Refuses IsFull)
reply_shown Begun built = option_map OfBuild built
reply_shown (IsGrouped edits) built = unless_built built (GroupedAs edits)
reply_shown (IsStopped number refusal) built = unless_built built (StoppedAt number (refusal_shown refusal))

abbrev pub entry_with : ℕ → Entry → Shown → EntryShown
entry_with place entry shown = record { place = place; session = entry.session; number = entry.number; shown = shown }

-- an entry at its place, and what is shown of its build
abbrev pub entry_shown : ℕ → Entry → Option BuildShown → Option EntryShown
entry_shown place entry built = option_map (entry_with place entry) (reply_shown entry.reply built)
