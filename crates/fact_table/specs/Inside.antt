-- What holds inside of a table (own).
use Rattle.std.specs.Prelude.{◌≡◌, ◌+◌, ◌<◌, ◌≤◌, ◌^◌, ℕ, Some, length, slice_get}
use Rattle.std.specs.VecDeque.{deque_capacity, deque_len}
use Rattle.facts.specs.Rows.{Running, Stands}
use Rattle.facts.specs.Table.{TableData, made, size}
use Rattle.fact_table.specs.Claims.{claims_seen}
use Rattle.fact_table.specs.Noted.{AllHaveRows, judged_seen}
use Rattle.fact_table.specs.Seen.{TableSeen}
use Rattle.fact_table.specs.Shelf.{IsShelf, KnowsClaims, rows_seen}
use Rattle.fact_table.specs.declared.table.Table.TheInside.{Inside}

abbrev pub data_seen : Inside → TableData
data_seen table = record {
  rows = rows_seen table.shelf;
  running = claims_seen table.claims.items;
  drawn = table.drawn;
  dropped = table.shelf.dropped;
  limit = table.limit;
}

abbrev pub table_seen : Inside → TableSeen
table_seen table = record { table = data_seen table; judged = judged_seen table.memo.items }

-- claims have rising serials that were drawn, and few enough names; more serials were drawn than rows made
pub record AreDrawn (table : TableData) : Type 0 where
  pub rise : (i j : ℕ) (claim later : Running) → i < j → slice_get table.running i ≡ Some claim
      → slice_get table.running j ≡ Some later → claim.serial < later.serial
  pub drawn : (claim : Running) → Stands table.running claim → claim.serial ≤ table.drawn
  pub names : (claim : Running) → Stands table.running claim → length claim.state ≤ 2 ^ 48
  pub made : made table + length table.running ≤ table.drawn

-- there is room for the row of each claim
pub record HasRoom (table : Inside) : Type 0 where
  pub rows : deque_len table.shelf.rows + length table.claims.items ≤ deque_capacity table.shelf.rows
  pub keys : KnowsClaims table.shelf.newest (claims_seen table.claims.items)

-- serials and the limit are numbers of the machine
pub record AreWords (table : Inside) : Type 0 where
  pub drawn : table.drawn < 2 ^ 64
  pub limit : table.limit < 2 ^ 64

pub record IsTable (table : Inside) : Type 0 where
  pub shelf : IsShelf table.shelf
  pub drawn : AreDrawn (data_seen table)
  pub fits : size (rows_seen table.shelf) ≤ table.limit
  pub room : HasRoom table
  pub noted : AllHaveRows (rows_seen table.shelf) table.memo.items
  pub words : AreWords table
