-- Kept rows as data, and how they are found (own): the rank of a row is its place behind the dropped ones; each row tells
-- the rank of the row of its key before it, and a table the rank of the newest row of each key.
use Rattle.std.specs.Prelude.{◌≡◌, ◌+◌, ◌-◌, ◌<◌, ◌≤◌, ℕ, List, Option, Some, length, map, option_map, slice_get}
use Rattle.dita_doc.specs.declared.fact.FactKey.{FactKey}
use Rattle.facts.specs.Rows.{RowData, Running, Stands, row_data}
use Rattle.facts.specs.Table.{size}
use Rattle.facts.specs.declared.row.Row.{Row}
use Rattle.fact_table.specs.Ranks.{IsKnown, Ranks, rank_in}
use Rattle.fact_table.specs.declared.shelf.Kept.{Kept}
use Rattle.fact_table.specs.declared.shelf.Shelf.{Shelf}

abbrev pub row_of_kept : Kept → RowData
row_of_kept kept = row_data kept.row

abbrev pub rows_of : List Kept → List RowData
rows_of kept = map row_of_kept kept

abbrev pub rows_seen : Shelf → List RowData
rows_seen shelf = rows_of shelf.rows.items

abbrev pub row_found : Option Row → Option RowData
row_found found = option_map row_data found

-- a row of this key stands at this place
pub record StandsAt (rows : List RowData) (place : ℕ) (key : FactKey) : Type 0 where
  pub row : RowData
  pub at : slice_get rows place ≡ Some row
  pub of : row.fact.key ≡ key

-- it is the rank of the newest row of a key among the first rows, as many as the bound says; or that row was dropped,
-- and there is none
pub record IsNewest (dropped : ℕ) (rows : List RowData) (bound : ℕ) (key : FactKey) (rank : ℕ) : Type 0 where
  pub none_above : (place : ℕ) (row : RowData) → place < bound → slice_get rows place ≡ Some row → row.fact.key ≡ key
      → dropped + 1 + place ≤ rank
  pub below : dropped < rank → rank ≤ dropped + bound
  pub here : dropped < rank → StandsAt rows (rank - dropped - 1) key

pub record AreKept (kept : List Kept) (dropped : ℕ) : Type 0 where
  pub ranks : (place : ℕ) (row : RowData) → slice_get (rows_of kept) place ≡ Some row → row.rank ≡ dropped + 1 + place
  pub older : (place : ℕ) (one : Kept) → slice_get kept place ≡ Some one
      → IsNewest dropped (rows_of kept) place (row_of_kept one).fact.key one.older

pub record IsShelf (shelf : Shelf) : Type 0 where
  pub kept : AreKept shelf.rows.items shelf.dropped
  pub newest : (key : FactKey)
      → IsNewest shelf.dropped (rows_seen shelf) (length (rows_seen shelf)) key (rank_in shelf.newest key)
  pub bytes : shelf.bytes ≡ size (rows_seen shelf)

-- the key of each of these claims has an entry
pub record KnowsClaims (ranks : Ranks) (running : List Running) : Type 0 where
  pub each : (claim : Running) → Stands running claim → IsKnown ranks claim.key
