use Rattle.std.proofs.Common.{◌≡◌, ◌++◌, take}
use Rattle.reader_spec.specs.World.{World}
use Rattle.reltable_links.specs.RowTable.{AreRowsOf, faults_of_rows}
use Rattle.reltable_links.proofs.table.Rows.append_rows.Given as goal

abbrev pub invariant-loop-row : goal.invariant-loop-row
invariant-loop-row l = (world : World) → AreRowsOf world l.plan l.self
    → l.faults ≡ l.fn.faults ++ faults_of_rows l.plan l.self.cells.cells.items (take l.row-index l.rows)
    l.self.cells.lost.items
