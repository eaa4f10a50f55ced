use Rattle.reltable_links.specs.RowTable.{faults_of_row}
use Rattle.reltable_links.proofs.TableLaws.{flat_more}
use Rattle.reltable_links.proofs.table.Rows.append_rows.Goals as goal

pub loop-row-preserved : goal.loop-row-preserved
loop-row-preserved c = λ world are.
    let table = c.args.self.now.cells in
    flat_more (faults_of_row c.args.plan.now table.cells.items table.lost.items) c.args.rows.now c.loop-row.row-index _
    c.loop-row-test.true c.args.faults.now c.loop-row.faults c.append_row.new.faults
    (c.in_ok-append_row.ensures world are) (c.loop-row.invariant world are)
