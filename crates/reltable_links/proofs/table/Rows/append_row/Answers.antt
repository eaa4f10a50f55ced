use Rattle.std.specs.Prelude.{filter}
use Rattle.std.specs.List.{flat_map}
use Rattle.std.specs.List.Sorted.{IsNonDecreasingBy}
use Rattle.std.proofs.Common.{◌++◌, ◌∙◌, ℕ, ap, subst, sym}
use Rattle.reltable_links.specs.Below.{is_below_one}
use Rattle.reltable_links.specs.RowTable.{lost_fault}
use Rattle.reltable_links.specs.declared.cells.RowCell.{RowCell}
use Rattle.reltable_links.proofs.FaultLaws.{one_row}
use Rattle.reltable_links.proofs.TableLaws.{cells_rise, lost_rise, row_rises}
use Rattle.reltable_links.proofs.table.Rows.append_row.Goals as goal

pub returns : goal.returns
returns c = λ world are.
    let plan = c.args.plan.now in
    let rows = c.args.self.now in
    let row = c.args.row in
    let old = c.args.faults.now in
    let cells = c.cells_of.ensures ∙ are.standings.rows row in
    let lost = c.deref.ensures.value in
    let rise = subst (IsNonDecreasingBy (λ (cell : RowCell). cell.at)) (sym are.cells.cells) (cells_rise world plan) in
    c.in_ok-append_below.ensures
    (subst (IsNonDecreasingBy (λ (cell : RowCell). cell.at)) (sym cells) (row_rises row rows.cells.cells.items rise))
    (subst (IsNonDecreasingBy (λ (at : ℕ). at)) (sym (lost ∙ are.cells.lost)) (lost_rise world plan))
    ∙ (λ i. old ++ flat_map (lost_fault plan) (filter (is_below_one (cells i)) (lost i)))
    ∙ ap (λ l. old ++ l) (one_row plan rows.cells.cells.items row rows.cells.lost.items)
