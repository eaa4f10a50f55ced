use Rattle.std.proofs.Common.{◌++◌, ap, ◌∙◌, map}
use Rattle.html_tables.specs.Walk.{cells_at, shown_cell}
use Rattle.readers.specs.Named.{named_tree}
use Rattle.html_tables.proofs.table.cells.Goals as goal

pub returns : goal.returns
returns c =
    c.in_ok-append_found.ensures
    ∙ ap (λ cells. map shown_cell cells ++ cells_at (named_tree c.args.body.now) c.args.table) c.new.ensures
