-- What closing a desk gives (own): the book of its one history, with the limits of the desk. No row of it was made where
-- an older row would have done.
use Rattle.std.specs.Prelude.{◌≡◌, ◌<◌, List}
use Rattle.dita_doc.specs.History.{Entry, IsLegal, sources}
use Rattle.facts.specs.Rows.{RowData, Stands}
use Rattle.desk_core.specs.Book.{BookData}
use Rattle.desk_lock.specs.Knows.{all_parts}
use Rattle.desk_lock.specs.Learns.{KnowsAll}
use Rattle.desk_lock.specs.Lists.{StartsWith}
use Rattle.desk_lock.specs.Meaning.{Meaning}
use Rattle.desk_lock.specs.Past.{limits_of}
use Rattle.desk_lock.specs.declared.view.View.{View}

-- of two rows of one part, of which the first was published before the second was claimed, the first does not agree
-- with the sources of the second
abbrev pub IsNeverTwice : Meaning → List Entry → List RowData → Type 0
IsNeverTwice means history rows = (row later : RowData) → Stands rows row → Stands rows later
    → row.fact.key ≡ later.fact.key → row.mark < later.serial → means.agrees row.fact (sources history later.stamp) → ⊥

pub record Closes (means : Meaning) (v : View) (book : BookData) : Type 0 where
  pub begins : StartsWith book.store.history v.seen
  pub legal : IsLegal book.store.history
  pub never_twice : IsNeverTwice means book.store.history book.table.rows
  pub limits : limits_of book ≡ v.limits
  pub all : v.parts ≡ all_parts → KnowsAll v book
