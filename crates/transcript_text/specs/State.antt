-- What is read of a transcript after some lines, and which lines may follow.
use Rattle.std.specs.Prelude.{◌≡◌, ◌+◌, ◌<◌, ◌≤◌, ℕ, List, [], ◌∷◌, ◌++◌, length, map, All}
use Rattle.std.specs.List.{flat_map}
use Rattle.dita_doc.specs.Lines.{line, IsLineText}
use Rattle.transcript_text.specs.Transcript.{Fits64, EntryShown, IsEntryShown, PartShown, RowShown, IsRowShown, NeverFall, Totals, end_head}
use Rattle.transcript_text.specs.declared.below.Below.{Below}
use Rattle.transcript_text.specs.declared.transcript.EntryText.{EntryText}
use Rattle.transcript_text.specs.declared.transcript.RowText.{RowText}
use Rattle.transcript_text.specs.declared.transcript.Transcript.{Transcript}
use Rattle.transcript_text.specs.declared.state.ReadState.{ReadState}
use Rattle.transcript_text.specs.declared.state.ReadState.TheVariants.{Start, Entries, Entry, Rows, Row, End}
use Rattle.transcript_text.specs.Below.{count_of, FitFrom}
use Rattle.transcript_text.specs.Heads.{IsEntryLine, IsRowLine, part_seen}
use Rattle.transcript_text.specs.Words.{TextLines}
use Rattle.transcript_text.specs.Told.{entry_told, row_told, bar, first_line, entry_lines, row_lines}

-- What was read

-- the first line, and whole entries
pub record HasEntries (entries : List EntryText) (read : TextLines) : Type 0 where
  pub shown : List EntryShown
  pub valid : All IsEntryShown shown
  pub same : entries ≡ map entry_told shown
  pub lines : read ≡ first_line ∷ flat_map entry_lines shown

-- and the first lines of one more
pub record HasOpenEntry (entries : List EntryText) (opened : EntryText) (below : Below)
    (read : TextLines) : Type 0 where
  pub before : TextLines
  pub head : List ℕ
  pub whole : HasEntries entries before
  pub begun : IsEntryLine head opened.place opened.session opened.number opened.reply below
  pub fit : FitFrom below 0 opened.lines
  pub few : length opened.lines ≤ count_of below
  pub lines : read ≡ before ++ head ∷ map bar opened.lines

-- the last serial of some rows, or this one
abbrev pub last_of : ℕ → List RowShown → ℕ
last_of serial [] = serial
last_of serial (row ∷ rows) = last_of row.serial rows

-- the entries, and whole rows
pub record HasRows (entries : List EntryText) (rows : List RowText) (last : ℕ) (read : TextLines) : Type 0 where
  pub before : TextLines
  pub whole : HasEntries entries before
  pub shown : List RowShown
  pub valid : All IsRowShown shown
  pub rising : NeverFall 0 shown
  pub ended : last ≡ last_of 0 shown
  pub same : rows ≡ map row_told shown
  pub lines : read ≡ before ++ flat_map row_lines shown

-- and the first lines of one more, of which so many are left
pub record HasOpenRow (entries : List EntryText) (rows : List RowText) (opened : RowText) (left : ℕ)
    (read : TextLines) : Type 0 where
  pub before : TextLines
  pub last : ℕ
  pub whole : HasRows entries rows last before
  pub rises : last ≤ opened.serial
  pub head : List ℕ
  pub part : PartShown
  pub texts : TextLines
  pub begun : IsRowLine head opened.serial part opened.key.map opened.key.val (length texts + left)
  pub parted : opened.key.part ≡ part_seen part
  pub fit : All IsLineText texts
  pub same : opened.bytes ≡ flat_map line texts
  pub lines : read ≡ before ++ head ∷ map bar texts

-- all was read
pub record HasAll (transcript : Transcript) (read : TextLines) : Type 0 where
  pub before : TextLines
  pub last : ℕ
  pub whole : HasRows transcript.entries transcript.rows last before
  pub totals : Totals
  pub counted : Fits64 totals.entries
  pub made : Fits64 totals.made
  pub dropped : Fits64 totals.dropped
  pub same : transcript.total ≡ (totals.entries, totals.made, totals.dropped)
  pub lines : read ≡ before ++ end_head totals ∷ []

abbrev pub HasRead : ReadState → TextLines → Type 0
HasRead Start read = read ≡ []
HasRead (Entries entries) read = HasEntries entries read
HasRead (Entry entries opened below) read =
    (length opened.lines < count_of below) × HasOpenEntry entries opened below read
HasRead (Rows entries rows last) read = HasRows entries rows last read
HasRead (Row entries rows opened left) read = (0 < left) × HasOpenRow entries rows opened left read
HasRead (End transcript) read = HasAll transcript read

-- Which lines may follow

-- rows from this serial on, and the last line
pub record MayRows (last : ℕ) (more : TextLines) : Type 0 where
  pub rows : List RowShown
  pub valid : All IsRowShown rows
  pub rising : NeverFall last rows
  pub totals : Totals
  pub counted : Fits64 totals.entries
  pub made : Fits64 totals.made
  pub dropped : Fits64 totals.dropped
  pub lines : more ≡ flat_map row_lines rows ++ end_head totals ∷ []

-- entries first
pub record MayEntries (more : TextLines) : Type 0 where
  pub entries : List EntryShown
  pub valid : All IsEntryShown entries
  pub back : TextLines
  pub behind : MayRows 0 back
  pub lines : more ≡ flat_map entry_lines entries ++ back

-- the lines of an entry from this index on, and then entries
pub record MayEntryLines (below : Below) (at : ℕ) (more : TextLines) : Type 0 where
  pub texts : TextLines
  pub fit : FitFrom below at texts
  pub count : at + length texts ≡ count_of below
  pub back : TextLines
  pub behind : MayEntries back
  pub lines : more ≡ map bar texts ++ back

-- so many lines of a row of this serial, and then rows
pub record MayRowLines (left serial : ℕ) (more : TextLines) : Type 0 where
  pub texts : TextLines
  pub fit : All IsLineText texts
  pub count : length texts ≡ left
  pub back : TextLines
  pub behind : MayRows serial back
  pub lines : more ≡ map bar texts ++ back

abbrev pub MayStart : TextLines → Type 0
MayStart more = (back : TextLines) × (more ≡ first_line ∷ back) × MayEntries back

abbrev pub May : ReadState → TextLines → Type 0
May Start more = MayStart more
May (Entries entries) more = MayEntries more
May (Entry entries opened below) more =
    (length opened.lines < count_of below) × MayEntryLines below (length opened.lines) more
May (Rows entries rows last) more = MayRows last more
May (Row entries rows opened left) more = (0 < left) × MayRowLines left opened.serial more
May (End transcript) more = more ≡ []
