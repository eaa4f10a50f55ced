-- What the transcript of a batch tells of the rows that were made (own).
use Rattle.std.specs.Prelude.{◌≡◌, ℕ, List, Some, slice_get}
use Rattle.dita_doc.specs.Bytes.{Bytes}
use Rattle.facts.specs.Rows.{Stands}
use Rattle.facts.specs.Table.{made}
use Rattle.desk_core.specs.Book.{BookData}
use Rattle.run_spec.specs.HistoryTold.{cited_by}
use Rattle.transcript_text.specs.Transcript.{EntryShown, RowShown, Transcript}
use Rattle.desk_top.specs.Again.{serials_in}
use Rattle.desk_top.specs.Given.{rows_of}
use Rattle.desk_top.specs.Told.{TellsHistory}
use Rattle.desk_top.specs.declared.callers.BuiltAt.{BuiltAt}

-- the row has the serial of one that a build cites
pub record IsOfCited (built : List BuiltAt) (row : RowShown) : Type 0 where
  pub given : BuiltAt
  pub stands : Stands built given
  pub cited : Stands (serials_in (rows_of given.outcome)) row.serial

-- its end has the counts of the book; each build shows the serials of the rows that it cites; and each row is one of these
pub record TellsMade (book : BookData) (built : List BuiltAt) (transcript : Transcript) : Type 0 where
  pub made : transcript.totals.made ≡ made book.table
  pub dropped : transcript.totals.dropped ≡ book.table.dropped
  pub cites : (given : BuiltAt) (shown : EntryShown) → Stands built given
      → slice_get transcript.entries given.place ≡ Some shown → cited_by shown.shown ≡ serials_in (rows_of given.outcome)
  pub rows : (at : ℕ) (row : RowShown) → slice_get transcript.rows at ≡ Some row → IsOfCited built row

-- the text tells the history of the book, and what was made
pub record TellsBatch (book : BookData) (built : List BuiltAt) (text : Bytes) : Type 0 where
  pub tells : TellsHistory book.store.history text
  pub made : TellsMade book built tells.transcript
