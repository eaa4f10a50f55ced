use Rattle.std.proofs.Common.{◌∙◌, ap}
use Rattle.std.specs.Prelude.{codes}
use Rattle.plan_nodes.specs.Home.{value_at}
use Rattle.reltable_links.specs.CellTable.{cell_by, is_family_by}
use Rattle.reltable_links.proofs.StepLaws.{cell_put, read_at}
use Rattle.reltable_links.proofs.cells.Cells.put_cell.Goals as goal

pub returns : goal.returns
returns c = λ world homes.
    let plan = c.args.plan.now in
    let at = c.args.at in
    let node = c.index-nodes-at.result in
    cell_put world plan c.args.homes.now at c.in_ok-place.place node c.cell_for-cell.result c.args.self.now
    c.put_row.new.self c.put_made.new.self
    (read_at c.as_slice-nodes.result.now plan.nodes at node c.as_slice-nodes.ensures c.requires c.index-nodes-at.is)
    c.in_ok-place.ensures.place homes c.in_ok-put_row.ensures.rows c.in_ok-put_row.ensures.cells
    c.in_ok-put_row.ensures.nodes c.in_ok-put_row.ensures.lost c.in_ok-put_row.ensures.end
    c.in_ok-put_made.ensures.rows c.in_ok-put_made.ensures.cells c.in_ok-put_made.ensures.nodes
    c.in_ok-put_made.ensures.lost c.in_ok-put_made.ensures.end
    (c.cell_for-cell.ensures
    ∙ ap (λ ns. cell_by ns (is_family_by (value_at c.args.homes.now at (codes "collection-type"))) at
    c.in_ok-place.place node) c.as_slice-nodes.ensures)
