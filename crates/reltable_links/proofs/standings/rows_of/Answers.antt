use Rattle.reltable_links.specs.Standings.{is_in, listed}
use Rattle.reltable_links.proofs.LoopLaws.{kept_more}
use Rattle.reltable_links.proofs.standings.rows_of.Goals as goal

pub loop-cell-preserved : goal.loop-cell-preserved
loop-cell-preserved c = λ row.
    kept_more (is_in row) c.args.cells.now c.loop-cell.cell-index _ c.loop-cell-test.true
    (listed row c.loop-cell.rows.entries) (listed row c.put_cell.new.rows.entries) (c.in_ok-put_cell.ensures row)
    (c.loop-cell.invariant row)
