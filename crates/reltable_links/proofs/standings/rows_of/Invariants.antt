use Rattle.std.proofs.Common.{◌≡◌, ℕ, take}
use Rattle.std.specs.Prelude.{filter}
use Rattle.reltable_links.specs.Standings.{is_in, listed}
use Rattle.reltable_links.proofs.standings.rows_of.Given as goal

abbrev pub invariant-loop-cell : goal.invariant-loop-cell
invariant-loop-cell l =
    (row : ℕ) → listed row l.rows.entries ≡ filter (is_in row) (take l.cell-index l.cells)
