-- The cells of each row, and where each page stands in rows (own).
use Rattle.std.specs.Prelude.{◌≡◌, ◌==◌, ◌&&◌, ◌||◌, ℕ, Bool, false, not, List, [], ◌∷◌, filter, if◌then◌else◌}
use Rattle.std.specs.BTreeMap.{is_at}
use Rattle.std.specs.List.{list_any}
use Rattle.std.specs.Map.{lookup}
use Rattle.std.specs.Option.{option_map_or}
use Rattle.std.specs.Ordering.{nat_cmp}
use Rattle.std.specs.declared.alloc.Global.{Global}
use Rattle.std.specs.declared.vec.Vec.{Vec}
use Rattle.link_groups.specs.declared.link_nodes.LinkNode.{LinkNode}
use Rattle.reltable_links.specs.CellTable.{contains, relates}
use Rattle.reltable_links.specs.Linked.{is_from, links_into}
use Rattle.reltable_links.specs.declared.cells.RowCell.{RowCell}
use Rattle.reltable_links.specs.declared.standings.RowStanding.{RowStanding}
use Rattle.reltable_links.specs.declared.standings.Standings.{Standings}

-- what is kept by a number
abbrev pub listed : {X : Type 0} → ℕ → List (ℕ × Vec X Global) → List X
listed {X} number entries =
    option_map_or (λ (list : Vec X Global). list.items) (lookup (is_at (nat_cmp number)) entries) []

-- The cells of a row

abbrev pub is_in : ℕ → RowCell → Bool
is_in row cell = row == cell.row

abbrev pub if_in : ℕ → RowCell → List RowCell
if_in row cell = if row == cell.row then cell ∷ [] else []

-- Where a page stands in a row

-- a page that stands so is linked to the nodes below a cell
abbrev pub reaches : RowCell → RowStanding → Bool
reaches cell standing =
    (standing.row == cell.row) && (standing.is_several || (not (standing.cell == cell.at) || cell.is_family))

-- in one cell
abbrev pub alone : RowCell → RowStanding
alone own = record { row = own.row; cell = own.at; is_several = false }

-- in one cell more of the row
abbrev pub in_one_cell_more : RowStanding → RowCell → RowStanding
in_one_cell_more last own = record {
  row = last.row;
  cell = last.cell;
  is_several = last.is_several || not (last.cell == own.at);
}

-- a page is linked to the nodes below a cell as one that stands so
abbrev pub reaches_at : ℕ → List (ℕ × Vec RowStanding Global) → RowCell → Bool
reaches_at page entries cell = list_any (reaches cell) (listed page entries)

-- because one of the nodes below a cell is the page's
abbrev pub leads_from : ℕ → RowCell → RowCell → LinkNode → Bool
leads_from page own cell node = is_from page node && relates own cell

abbrev pub stands_in : ℕ → List LinkNode → RowCell → RowCell → Bool
stands_in page nodes cell own = list_any (λ node. contains node.at own && leads_from page own cell node) nodes

-- What is kept

abbrev pub AreRows : List RowCell → List (ℕ × Vec RowCell Global) → Type 0
AreRows cells entries = (row : ℕ) → listed row entries ≡ filter (is_in row) cells

abbrev pub ArePages : List RowCell → List LinkNode → List (ℕ × Vec RowStanding Global) → Type 0
ArePages cells nodes entries = (page : ℕ) (cell : RowCell) → reaches_at page entries cell ≡ links_into page cells nodes cell

pub record AreStandings (cells : List RowCell) (nodes : List LinkNode) (standings : Standings) : Type 0 where
  pub rows : AreRows cells standings.rows.entries
  pub pages : ArePages cells nodes standings.pages.entries

-- What standings reach

-- a cell of a row that a page reaches passes a test
abbrev pub reached : (RowCell → Bool) → List (ℕ × Vec RowCell Global) → RowStanding → Bool
reached test rows standing = list_any (λ cell. reaches cell standing && test cell) (listed standing.row rows)
