use Rattle.std.proofs.Common.{◌∙◌, ap}
use Rattle.std.specs.Prelude.{◌&&◌, ◌||◌}
use Rattle.std.specs.List.{list_any}
use Rattle.reltable_links.specs.Standings.{reaches}
use Rattle.reltable_links.specs.declared.cells.RowCell.{RowCell}
use Rattle.reltable_links.proofs.standings.Standings.append_row.Goals as goal

pub returns : goal.returns
returns c = λ test.
    c.in_ok-append_cells.ensures test
    ∙ ap (λ cells. list_any test c.args.linked.now.items
    || list_any (λ (cell : RowCell). reaches cell c.args.standing.now && test cell) cells) c.cells_of.ensures
