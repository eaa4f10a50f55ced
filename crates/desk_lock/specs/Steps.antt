-- The steps of a desk (own). Each is one atomic step on the gate, and tells the party that steps what it knows behind
-- it: its view, and what it has of the slot. Whoever opens the gate gives up the book, and has seen the history that
-- the book it gives up has. The book is taken and put back between two steps, which changes no view.
use Rattle.std.specs.Prelude.{◌≡◌, ◌≢◌, ℕ, List, [], ◌∷◌, Option, Some, None, length}
use Rattle.atomic_table.specs.Table.{Me}
use Rattle.dita_doc.specs.History.{Entry}
use Rattle.dita_doc.specs.declared.fact.FactKey.{FactKey}
use Rattle.facts.specs.Latest.{ClaimAnswer, Have, Taken, Yours}
use Rattle.facts.specs.Rows.{Claim, RowData}
use Rattle.desk_core.specs.Book.{BookData}
use Rattle.desk_lock.specs.Knows.{drew, given, has_met, holding, let_go, looked, made, printed, settled}
use Rattle.desk_lock.specs.Learns.{Learns}
use Rattle.desk_lock.specs.Lists.{StartsWith}
use Rattle.desk_lock.specs.declared.view.View.{View}

abbrev pub log_in : Option BookData → List Entry
log_in None = []
log_in (Some book) = book.store.history

-- the history of the book as its holder took it
abbrev pub log_held : View → List Entry
log_held v = log_in v.held

module _ {B : Type 0} (shown : B → BookData) where
  abbrev pub log_shown : Option B → List Entry
  log_shown None = []
  log_shown (Some book) = (shown book).store.history

  -- the history of the book that the party has of the slot
  abbrev pub log_carried : List (ℕ × Option B) → List Entry
  log_carried [] = []
  log_carried (one ∷ more) = log_shown one.1

  -- It tries to shut the gate. If the gate was open, it has the book, and learns what the rule tells of it
  abbrev pub Tries : Me (Option B) View → ℕ → Me (Option B) View → Type 0
  Tries m found n =
      (found ≡ 0 → (book : B) × (n ≡ (holding m.0 (shown book), (0, Some book) ∷ [])) × Learns m.0 (shown book))
      × (found ≢ 0 → n ≡ m)

  -- It opens the gate

  -- after no event
  abbrev pub Sees : Me (Option B) View → ℕ → Me (Option B) View → Type 0
  Sees m found n = n ≡ (looked m.0 (log_carried m.1), [])

  -- after an entry, which stands behind the history that it found
  abbrev pub Commits : Me (Option B) View → ℕ → Me (Option B) View → Type 0
  Commits m found n = n ≡ (made m.0 (log_carried m.1) (length (log_held m.0)), [])

  -- after this claim was granted
  abbrev pub IsGranted : Claim → Me (Option B) View → ℕ → Me (Option B) View → Type 0
  IsGranted claim m found n = n ≡ (drew m.0 (log_carried m.1) claim, [])

  -- after a claim that another runs
  abbrev pub Met : Claim → Me (Option B) View → ℕ → Me (Option B) View → Type 0
  Met claim m found n = n ≡ (has_met m.0 (log_carried m.1) claim, [])

  -- after a claim for which this row was kept
  abbrev pub Had : RowData → Me (Option B) View → ℕ → Me (Option B) View → Type 0
  Had row m found n = n ≡ (given m.0 (log_carried m.1) row, [])

  -- after a claim, by its answer
  abbrev pub Tells : FactKey → ℕ → ClaimAnswer → Me (Option B) View → ℕ → Me (Option B) View → Type 0
  Tells key stamp (Have row) = Had row
  Tells key stamp (Taken serial) = Met (record { serial = serial; key = key; stamp = stamp })
  Tells key stamp (Yours claim) = IsGranted claim

  -- after this row was published
  abbrev pub Prints : RowData → Me (Option B) View → ℕ → Me (Option B) View → Type 0
  Prints row m found n = n ≡ (printed m.0 (log_carried m.1) row, [])

  -- after the claim of this serial was released
  abbrev pub LetsGo : ℕ → Me (Option B) View → ℕ → Me (Option B) View → Type 0
  LetsGo serial m found n = n ≡ (let_go m.0 (log_carried m.1) serial, [])

-- It looks at the gate behind a join, and the longer of the two histories begins with the shorter
abbrev pub Compares : {B : Type 0} → Me (Option B) View → ℕ → Me (Option B) View → Type 0
Compares m found n = (n ≡ (settled m.0, m.1)) × StartsWith m.0.seen m.0.also
