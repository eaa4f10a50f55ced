-- What a party learns of the book when it takes the gate (own), by the rule and by what it knows itself.
use Rattle.std.specs.Prelude.{◌≡◌, ◌≢◌, ◌+◌, ◌<◌, ◌≤◌, ℕ, List, Some, drop, length, slice_get, sum_by}
use Rattle.facts.specs.Rows.{Claim, HaveOnePlan, RowData, Running, Stands, claim_of, plan_in, plan_serial}
use Rattle.facts.specs.Table.{made, size}
use Rattle.desk_core.specs.Book.{BookData}
use Rattle.desk_lock.specs.Knows.{all_parts, ends, known, row_serials, serials}
use Rattle.desk_lock.specs.Lists.{Each, IsNoneOf, IsReordered, StartsWith, counted}
use Rattle.desk_lock.specs.Past.{limits_of, placed}
use Rattle.desk_lock.specs.Rule.{running_serials}
use Rattle.desk_lock.specs.declared.view.View.{View}

-- the rows that are left of all that were published, by rank: those behind the first `gone`, which are gone only if all
-- together count for more than the table holds
pub record AreLeft (limit : ℕ) (prints left : List RowData) (count gone : ℕ) : Type 0 where
  pub kept : left ≡ drop gone prints
  pub made : count ≡ length prints
  pub dropped : gone ≤ length prints
  pub over : 0 < gone → limit < size prints
  pub ranks : (before : ℕ) (row : RowData) → slice_get prints before ≡ Some row → row.rank ≡ before + 1
  pub marks : (before : ℕ) (row : RowData) → slice_get prints before ≡ Some row → row.serial ≤ row.mark
  pub once : (before other : ℕ) (row again : RowData) → slice_get prints before ≡ Some row
      → slice_get prints other ≡ Some again → row.serial ≡ again.serial → before ≡ other

-- who has all parts knows each entry, each claim, each row and each release
pub record KnowsAll (v : View) (book : BookData) : Type 0 where
  pub prints : List RowData
  pub places : IsReordered (known v) (placed 0 book.store.history)
  pub drawn : IsReordered (serials v.drawn) (counted 1 book.table.drawn)
  pub ended : (weight : ℕ → ℕ) → sum_by weight (serials v.drawn)
      ≡ sum_by weight (ends v) + sum_by weight (running_serials book)
  pub published : IsReordered v.published prints
  pub print : (row : RowData) → Stands v.published row → Stands prints row
  pub rows : Each (Stands prints) v.rows
  pub marks : Each (λ (row : RowData). row.mark ≤ book.table.drawn) prints
  pub left : AreLeft book.table.limit prints book.table.rows (made book.table) book.table.dropped

pub record Learns (v : View) (book : BookData) : Type 0 where
  pub seen : StartsWith book.store.history v.seen
  pub limits : limits_of book ≡ v.limits
  pub stamps : Each (λ (claim : Claim). claim.stamp ≤ length v.seen) v.drawn
  -- its own claims run until it ends them
  pub running : (claim : Claim) → Stands v.drawn claim → IsNoneOf (ends v) claim.serial
      → (one : Running) × Stands book.table.running one × (claim_of one ≡ claim)
  -- a claim that runs was not ended by it, and none of its rows is of that claim
  pub taken : (one : Running) → Stands book.table.running one
      → IsNoneOf (ends v) one.serial × IsNoneOf (row_serials v.rows) one.serial
  -- its rows are kept unless they were dropped
  pub rows : Each (λ (row : RowData).
      (row.mark ≤ book.table.drawn) × (book.table.dropped < row.rank → Stands book.table.rows row)) v.rows
  -- the serials to come are new
  pub later : (serial : ℕ) → book.table.drawn < serial → IsNoneOf (serials v.drawn) serial × IsNoneOf (ends v) serial
  -- the kept rows that rest on the plan of a row that it knows have that plan
  pub plans : Each (λ (row : RowData). HaveOnePlan book.table.rows row.serial (plan_in row)) v.rows
  -- no kept row rests on a plan that it has still to publish
  pub unplanned : (claim : Claim) → Stands v.drawn claim → IsNoneOf (ends v) claim.serial
      → Each (λ (row : RowData). plan_serial row ≢ claim.serial) book.table.rows
  pub all : v.parts ≡ all_parts → KnowsAll v book
