-- The rule of a desk (own), which holds between any two steps. Word 0 of a table is the gate, 0 if it is open and 1 if
-- it is shut, and its one slot has the book. There is one past. The book, at home or as the holder of the gate took
-- it, is that past's. What each party knows is of it, and what all parties know together is all of it, each thing
-- once.
use Rattle.std.specs.Prelude.{◌≡◌, ◌+◌, ◌<◌, ◌≤◌, ◌≢◌, ◌⊎◌, ℕ, List, Option, Some, None, drop, length, map, slice_index, sum_by}
use mathlib.Core.Option.{some}
use lib.ListN.{get_elem?}
use Rattle.atomic_table.specs.Table.{State}
use Rattle.facts.specs.Rows.{Claim, Running, claim_of}
use Rattle.facts.specs.Table.{size}
use Rattle.desk_core.specs.Book.{BookData}
use Rattle.desk_lock.specs.Knows.{all_parts, ends, known, serials, spent_view}
use Rattle.desk_lock.specs.Lists.{Each, StartsWith}
use Rattle.desk_lock.specs.Past.{IsCounted, IsDrawn, IsMade, IsPrinted, Past, limits_of, placed, row_claim}
use Rattle.desk_lock.specs.declared.view.View.{View}

-- What one party knows is so

pub record IsOfPast (past : Past) (v : View) : Type 0 where
  pub seen : StartsWith past.log v.seen
  pub also : StartsWith past.log v.also
  pub limits : 0 < v.parts → v.limits ≡ past.limits
  pub mine : Each (λ place. IsMade past.log place v.session) v.mine
  pub theirs : Each (λ (place, session). IsMade past.log place session) v.theirs
  pub drawn : Each (IsDrawn past.draws) v.drawn
  pub stamps : Each (λ (claim : Claim). claim.stamp ≤ length v.seen) v.drawn
  pub published : Each (λ row. IsPrinted past.prints row × IsDrawn past.draws (row_claim row)) v.published
  pub rows : Each (IsPrinted past.prints) v.rows
  pub met : Each (IsDrawn past.draws) v.met
  -- it ends no claim but its own, and each once
  pub own : (weight : ℕ → ℕ) → sum_by weight (ends v) ≤ sum_by weight (serials v.drawn)

-- The book is that of the past: the kept rows are those whose rank is above the count of dropped rows, and rows were
-- dropped only if all together count for more than the table holds

pub record Stocked (book : BookData) (past : Past) : Type 0 where
  pub history : book.store.history ≡ past.log
  pub limits : limits_of book ≡ past.limits
  pub drawn : book.table.drawn ≡ length past.draws
  pub running : Each (λ running. IsDrawn past.draws (claim_of running)) book.table.running
  pub dropped : book.table.dropped ≤ length past.prints
  pub rows : book.table.rows ≡ drop book.table.dropped past.prints
  pub over : 0 < book.table.dropped → past.limits.table_bytes < size past.prints

-- Together the parties know all of it, each thing once

-- what the parties have in this list is, together and in some order, these items, each as often
abbrev pub HaveTogether : {X : Type 0} → (View → List X) → List View → List X → Type 0
HaveTogether {X} listed views items =
    (weight : X → ℕ) → sum_by (λ v. sum_by weight (listed v)) views ≡ sum_by weight items

abbrev pub running_serials : BookData → List ℕ
running_serials book = map (λ (running : Running). running.serial) book.table.running

pub record Counts (views : List View) (book : BookData) (past : Past) : Type 0 where
  pub places : HaveTogether known views (placed 0 past.log)
  pub draws : HaveTogether (λ v. v.drawn) views past.draws
  pub prints : HaveTogether (λ v. v.published) views past.prints
  -- a claim that was drawn was published, or released, or runs
  pub running : (weight : ℕ → ℕ) → sum_by (λ v. sum_by weight (serials v.drawn)) views
      ≡ sum_by (λ v. sum_by weight (ends v)) views + sum_by weight (running_serials book)
  pub parts : sum_by (λ v. v.parts) views ≡ all_parts

-- The gate

module _ {B : Type 0} (shown : B → BookData) where
  -- the book is at home, and no party has it
  pub record IsOpen (s : State (Option B) View) (book : BookData) : Type 0 where
    pub word : slice_index s.words 0 ≡ 0
    pub inside : B
    pub home : get_elem? s.homes 0 ≡ some (some (Some inside))
    pub is_book : shown inside ≡ book
    pub free : (by : ℕ) (v : View) → get_elem? s.views by ≡ some v → v.held ≡ None

  -- one party holds the gate, and knows the book as it took it
  pub record IsShut (s : State (Option B) View) (book : BookData) : Type 0 where
    pub word : slice_index s.words 0 ≡ 1
    pub holder : ℕ
    pub holding : View
    pub there : get_elem? s.views holder ≡ some holding
    pub holds : holding.held ≡ Some book
    pub others : (by : ℕ) (v : View) → by ≢ holder → get_elem? s.views by ≡ some v → v.held ≡ None

  -- The rule

  pub record RuleKept (s : State (Option B) View) : Type 0 where
    pub past : Past
    pub book : BookData
    pub one : length s.words ≡ 1
    pub gate : IsOpen s book ⊎ IsShut s book
    pub counted : IsCounted past
    pub stock : Stocked book past
    pub counts : Counts s.views book past
    pub fits : (by : ℕ) (v : View) → get_elem? s.views by ≡ some v → IsOfPast past v
    -- the history is the longest that a party has seen
    pub longest : (by : ℕ) × (v : View) × (get_elem? s.views by ≡ some v) × (v.seen ≡ past.log)
    -- a party without parts was joined away
    pub spent : (by : ℕ) (v : View) → get_elem? s.views by ≡ some v → v.parts ≡ 0 → v ≡ spent_view
