-- What holds of a book between any two events (own).
use Rattle.std.specs.Prelude.{◌≡◌, ◌+◌, ◌<◌, ◌≤◌, ℕ, List, Some, length, slice_get}
use Rattle.dita_doc.specs.Desk.{Stored, stored_under}
use Rattle.dita_doc.specs.History.{Entry, IsLegal, history_size, sources}
use Rattle.desk_core.specs.Book.{BookData}
use Rattle.facts.specs.Latest.{Agrees, FactAgrees}
use Rattle.facts.specs.Memo.{HaveRows, IsRight, PlanAgrees}
use Rattle.facts.specs.Rows.{RowData, Running, Stands, plan_in, plan_serial}
use Rattle.facts.specs.Table.{TableData, size}
use Rattle.facts.specs.declared.fact.Fact.{Fact}
use Rattle.facts.specs.declared.judged.Judged.{Judged}
use Rattle.version_store.specs.Entries.{ComesFrom}
use Rattle.version_store.specs.Kept.{Kept, stored_now}

-- The history is legal and within its limits, and what is stored is its replay; the version of a stored name is 1 more
-- than the place of the entry that stored it.
pub record IsStore (store : Kept) : Type 0 where
  pub legal : IsLegal store.history
  pub versions : (name : List ℕ) (stored : Stored) → stored_under (stored_now store) name ≡ Some stored
      → ComesFrom store.history stored
  pub entries : length store.history ≤ store.entry_limit
  pub text : history_size store.history ≤ store.text_limit

-- Each kept row is sound, and agrees with the sources of its snapshot, which is what was stored after as many entries as
-- its stamp says. Of two rows of one key, if the first was there when the second was claimed, it did not agree with the
-- second's sources.
pub record AreRows (agrees : FactAgrees) (sound : Fact → Type 0) (history : List Entry) (table : TableData)
    : Type 0 where
  pub stamps : (row : RowData) → Stands table.rows row → row.stamp ≤ length history
  pub are_sound : (row : RowData) → Stands table.rows row → sound row.fact
  pub agree : (row : RowData) → Stands table.rows row → agrees row.fact (sources history row.stamp)
  pub fresh : (row later : RowData) → Stands table.rows row → Stands table.rows later → row.fact.key ≡ later.fact.key
      → row.mark < later.serial → agrees row.fact (sources history later.stamp) → ⊥

-- Each running claim keeps the sources of its snapshot. No row of its key that was there when it was drawn agrees with
-- them. No two claims have one key and one stamp.
pub record AreClaims (agrees : FactAgrees) (history : List Entry) (table : TableData) : Type 0 where
  pub stamps : (claim : Running) → Stands table.running claim → claim.stamp ≤ length history
  pub states : (claim : Running) → Stands table.running claim → claim.state ≡ sources history claim.stamp
  pub sought : (row : RowData) (claim : Running) → Stands table.rows row → Stands table.running claim
      → row.fact.key ≡ claim.key → row.mark < claim.serial → agrees row.fact claim.state → ⊥
  pub differ : (i j : ℕ) (claim other : Running) → slice_get table.running i ≡ Some claim
      → slice_get table.running j ≡ Some other → claim.key ≡ other.key → claim.stamp ≡ other.stamp → i ≡ j

-- Serials were drawn, and no two rows or claims have one serial: those of claims rise. Ranks follow the dropped rows. A
-- mark is at least its row's serial, and was drawn. The rows are within the limit of bytes.
pub record AreNumbers (table : TableData) : Type 0 where
  pub rows : (i j : ℕ) (row other : RowData) → slice_get table.rows i ≡ Some row → slice_get table.rows j ≡ Some other
      → row.serial ≡ other.serial → i ≡ j
  pub claims : (i j : ℕ) (claim later : Running) → i < j → slice_get table.running i ≡ Some claim
      → slice_get table.running j ≡ Some later → claim.serial < later.serial
  pub apart : (row : RowData) (claim : Running) → Stands table.rows row → Stands table.running claim
      → row.serial ≡ claim.serial → ⊥
  pub drawn : (claim : Running) → Stands table.running claim → (0 < claim.serial) × (claim.serial ≤ table.drawn)
  pub marks : (row : RowData) → Stands table.rows row
      → (0 < row.serial) × (row.serial ≤ row.mark) × (row.mark ≤ table.drawn)
  pub ranks : (place : ℕ) (row : RowData) → slice_get table.rows place ≡ Some row → row.rank ≡ table.dropped + 1 + place
  pub bytes : size table.rows ≤ table.limit

-- Kept rows whose plan is judged under one serial have one plan.
pub record HavePlans (table : TableData) : Type 0 where
  pub same : (row other : RowData) → Stands table.rows row → Stands table.rows other
      → plan_serial row ≡ plan_serial other → plan_in row ≡ plan_in other

-- Each judgement that is kept is of the plan of a kept row, and is so over the sources of its stamp.
pub record AreJudged (plan_agrees : PlanAgrees) (history : List Entry) (table : TableData) (all : List Judged)
    : Type 0 where
  pub stamps : (judged : Judged) → Stands all judged → judged.stamp ≤ length history
  pub rows : HaveRows table.rows all
  pub right : (judged : Judged) (row : RowData) → Stands all judged → Stands table.rows row
      → judged.plan ≡ plan_serial row → IsRight plan_agrees (sources history judged.stamp) row judged

-- All of this, which events keep whatever judgements the table keeps
pub record IsInOrder (agrees : FactAgrees) (sound : Fact → Type 0) (book : BookData) : Type 0 where
  pub store : IsStore book.store
  pub rows : AreRows agrees sound book.store.history book.table
  pub claims : AreClaims agrees book.store.history book.table
  pub numbers : AreNumbers book.table
  pub plans : HavePlans book.table

-- And the judgements
pub record IsBook (plan_agrees : PlanAgrees) (own_agrees : FactAgrees) (sound : Fact → Type 0) (all : List Judged)
    (book : BookData) : Type 0 where
  pub order : IsInOrder (Agrees plan_agrees own_agrees) sound book
  pub judged : AreJudged plan_agrees book.store.history book.table all
