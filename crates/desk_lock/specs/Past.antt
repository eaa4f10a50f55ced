-- All that ever happened at a desk (own): its entries by place, the claims that were granted by serial, and the rows
-- that were published by rank. Serials and ranks count from 1.
use Rattle.std.specs.Prelude.{◌≡◌, ◌+◌, ◌≤◌, ◌⊎◌, ℕ, suc, List, [], ◌∷◌, Some, length, slice_get}
use Rattle.dita_doc.specs.History.{Entry}
use Rattle.desk_core.specs.Book.{BookData}
use Rattle.facts.specs.Rows.{Claim, RowData, Stands, plan_in}
use Rattle.desk_core.specs.declared.limits.Limits.{Limits}

pub record Past : Type 0 where
  pub log : List Entry
  pub draws : List Claim
  pub prints : List RowData
  pub limits : Limits

-- the limits of a book
abbrev pub limits_of : BookData → Limits
limits_of book = record {
  entries = book.store.entry_limit;
  text_bytes = book.store.text_limit;
  table_bytes = book.table.limit;
}

-- the claim that a row ended
abbrev pub row_claim : RowData → Claim
row_claim row = record { serial = row.serial; key = row.fact.key; stamp = row.stamp }

-- the places of these entries from this one on, each with the session of its entry
abbrev pub placed : ℕ → List Entry → List (ℕ × ℕ)
placed place [] = []
placed place (entry ∷ entries) = (place, entry.session) ∷ placed (place + 1) entries

-- an entry of this session stands at the place
abbrev pub IsMade : List Entry → ℕ → ℕ → Type 0
IsMade log place session = (entry : Entry) × (slice_get log place ≡ Some entry) × (entry.session ≡ session)

-- the claim stands at its serial
abbrev pub IsDrawn : List Claim → Claim → Type 0
IsDrawn draws claim = (before : ℕ) × (slice_get draws before ≡ Some claim) × (claim.serial ≡ suc before)

-- the row stands at its rank
abbrev pub IsPrinted : List RowData → RowData → Type 0
IsPrinted prints row = (before : ℕ) × (slice_get prints before ≡ Some row) × (row.rank ≡ suc before)

-- the row that a part names as that of its plan was published, and has the same plan
abbrev pub HasPlanAmong : List RowData → RowData → Type 0
HasPlanAmong prints row = (row.fact.planned ≡ 0)
    ⊎ ((planned : RowData) × Stands prints planned × (planned.serial ≡ row.fact.planned)
    × (plan_in planned ≡ plan_in row))

-- claims are counted by their serials, and rows by their ranks; no mark is above the serials drawn, nor below its
-- row's own
pub record IsCounted (past : Past) : Type 0 where
  pub draws : (before : ℕ) (claim : Claim) → slice_get past.draws before ≡ Some claim → claim.serial ≡ suc before
  pub ranks : (before : ℕ) (row : RowData) → slice_get past.prints before ≡ Some row → row.rank ≡ suc before
  pub marks : (before : ℕ) (row : RowData) → slice_get past.prints before ≡ Some row
      → (row.serial ≤ row.mark) × (row.mark ≤ length past.draws)
  pub plans : (before : ℕ) (row : RowData) → slice_get past.prints before ≡ Some row → HasPlanAmong past.prints row
