use Rattle.std.proofs.Common.{◌++◌, ◌∙◌, ap}
use Rattle.std.specs.List.{flat_map}
use Rattle.reltable_links.specs.RowTable.{lost_fault}
use Rattle.reltable_links.proofs.table.Rows.faults.Goals as goal

pub returns : goal.returns
returns c = λ world are.
    let fault = lost_fault c.args.plan.now in
    c.in_ok-append_faults.ensures ∙ ap (λ l. l ++ flat_map fault c.deref.result.now) c.new-faults.ensures
    ∙ ap (flat_map fault) (c.deref.ensures.value ∙ are.cells.lost)
