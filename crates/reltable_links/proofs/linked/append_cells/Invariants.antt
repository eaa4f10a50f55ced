use Rattle.std.proofs.Common.{◌≡◌, take}
use Rattle.std.specs.Prelude.{◌&&◌, ◌||◌, Bool}
use Rattle.std.specs.List.{list_any}
use Rattle.reltable_links.specs.Standings.{reaches}
use Rattle.reltable_links.specs.declared.cells.RowCell.{RowCell}
use Rattle.reltable_links.proofs.linked.append_cells.Given as goal

abbrev pub invariant-loop-cell : goal.invariant-loop-cell
invariant-loop-cell l = (test : RowCell → Bool) → list_any test l.linked.items
    ≡ (list_any test l.fn.linked.items
    || list_any (λ (cell : RowCell). reaches cell l.standing && test cell) (take l.cell-index l.cells))
