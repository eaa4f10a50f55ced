-- What stands below cells, in lists that are in the order of places (own).
use Rattle.std.specs.Prelude.{◌&&◌, ℕ, Bool, not, List, filter, nat_lt}
use Rattle.std.specs.List.{list_any}
use Rattle.reltable_links.specs.CellTable.{contains}
use Rattle.reltable_links.specs.declared.cells.RowCell.{RowCell}

-- a place stands behind that of the cell, and not before where others end
abbrev pub is_behind : RowCell → ℕ → ℕ → Bool
is_behind cell done at = nat_lt cell.at at && not (nat_lt at done)

-- and below the cell
abbrev pub is_new : RowCell → ℕ → ℕ → Bool
is_new cell done at = is_behind cell done at && nat_lt at cell.end

abbrev pub new_below : {X : Type 0} → (X → ℕ) → RowCell → ℕ → List X → List X
new_below place cell done xs = filter (λ x. is_new cell done (place x)) xs

-- a place stands below one of these cells
abbrev pub is_below_one : List RowCell → ℕ → Bool
is_below_one cells at = list_any (contains at) cells

-- one of them ends behind a place
abbrev pub ends_behind_one : List RowCell → ℕ → Bool
ends_behind_one cells at = list_any (λ (cell : RowCell). nat_lt at cell.end) cells
