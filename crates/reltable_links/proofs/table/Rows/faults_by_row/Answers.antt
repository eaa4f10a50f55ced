use Rattle.std.proofs.Common.{◌++◌, ◌∙◌, ap}
use Rattle.reltable_links.specs.RowTable.{faults_of_rows}
use Rattle.reltable_links.proofs.FaultLaws.{row_faults_are}
use Rattle.reltable_links.proofs.table.Rows.faults_by_row.Goals as goal

pub returns : goal.returns
returns c = λ world are.
    let plan = c.args.plan.now in
    let table = c.args.self.now.cells in
    let rows = c.deref.ensures.value in
    c.in_ok-append_rows.ensures world are
    ∙ ap (λ l. l ++ faults_of_rows plan table.cells.items c.deref.result.now table.lost.items) c.new-faults.ensures
    ∙ (λ i. faults_of_rows plan table.cells.items (rows i) table.lost.items)
    ∙ (λ i. faults_of_rows plan (are.cells.cells i) (are.cells.rows i) (are.cells.lost i))
    ∙ row_faults_are world plan are.tree
