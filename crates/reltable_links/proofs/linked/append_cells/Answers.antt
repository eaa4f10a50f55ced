use Rattle.std.specs.Prelude.{◌&&◌}
use Rattle.std.specs.List.{list_any}
use Rattle.reltable_links.specs.Standings.{reaches}
use Rattle.reltable_links.specs.declared.cells.RowCell.{RowCell}
use Rattle.reltable_links.proofs.LoopLaws.{any_more}
use Rattle.reltable_links.proofs.linked.append_cells.Goals as goal

pub loop-cell-preserved : goal.loop-cell-preserved
loop-cell-preserved c = λ test.
    any_more (λ (cell : RowCell). reaches cell c.args.standing.now && test cell) c.args.cells.now
    c.loop-cell.cell-index _
    c.loop-cell-test.true (list_any test c.args.linked.now.items) (list_any test c.loop-cell.linked.items)
    (list_any test c.append_cell.new.linked.items) (c.in_ok-append_cell.ensures test) (c.loop-cell.invariant test)
