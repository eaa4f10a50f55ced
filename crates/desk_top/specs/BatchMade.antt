-- What a batch made (own): the rows that were ever published, and the builds in the order of the history, each with what
-- it made and cited.
use Rattle.std.specs.Prelude.{◌≡◌, ◌<◌, ℕ, List, Some, slice_get}
use Rattle.facts.specs.Rows.{RowData, Stands}
use Rattle.facts.specs.Table.{made}
use Rattle.desk_core.specs.Book.{BookData}
use Rattle.desk_language.specs.Language.{Language}
use Rattle.desk_lock.specs.Closes.{IsNeverTwice}
use Rattle.desk_lock.specs.Learns.{AreLeft}
use Rattle.desk_lock.specs.Meaning.{Meaning}
use Rattle.desk_top.specs.Made.{AreMade, BuildMade}
use Rattle.desk_top.specs.SessionMade.{IsOf}
use Rattle.desk_top.specs.declared.callers.BuiltAt.{BuiltAt}

-- what a build made that gave this
pub record HasMadeOne (language : Language) (builds : List BuildMade) (built : BuiltAt) : Type 0 where
  pub one : BuildMade
  pub stands : Stands builds one
  pub of : IsOf language built one

-- what a build gave that made this
pub record HasGivenOne (language : Language) (built : List BuiltAt) (one : BuildMade) : Type 0 where
  pub given : BuiltAt
  pub stands : Stands built given
  pub of : IsOf language given one

-- The book is what is left of the rows that were published, of which none was made where an older row would have done.
-- The builds made them, and stand in the order of their places; each gave one of these.
pub record BatchMade (means : Meaning) (language : Language) (book : BookData) (built : List BuiltAt) : Type 0 where
  pub prints : List RowData
  pub builds : List BuildMade
  pub left : AreLeft book.table.limit prints book.table.rows (made book.table) book.table.dropped
  pub never : IsNeverTwice means book.store.history book.table.rows
  pub are : AreMade means language book.store.history prints builds
  pub rise : (at later : ℕ) (one other : BuildMade) → at < later → slice_get builds at ≡ Some one
      → slice_get builds later ≡ Some other → one.place < other.place
  pub forth : (given : BuiltAt) → Stands built given → HasMadeOne language builds given
  pub back : (one : BuildMade) → Stands builds one → HasGivenOne language built one
