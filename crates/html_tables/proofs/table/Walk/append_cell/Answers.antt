use Rattle.html_tables.proofs.WalkLaws.{cell_none, pushed_cell}
use Rattle.html_tables.proofs.table.Walk.append_cell.Goals as goal

pub returns-in-Some-clause-cells : goal.returns-in-Some-clause-cells
returns-in-Some-clause-cells c = λ name around is.
    pushed_cell c.push.result c.args.self.now.cells _ c.in-Some.cell _ c.push.ensures (c.in-Some.ensures name around is)

pub returns-in-None-clause-cells : goal.returns-in-None-clause-cells
returns-in-None-clause-cells c = λ name around is.
    cell_none c.args.self.now.cells _ (c.in-None.ensures name around is)
