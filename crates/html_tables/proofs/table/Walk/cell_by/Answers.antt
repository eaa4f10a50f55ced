use Rattle.std.proofs.Common.{Some, sym, ap, ◌∙◌}
use Rattle.doc_elements.specs.Walk.{element_of}
use Rattle.html_forms.specs.Shown.{form_shown_of}
use Rattle.html_spec.specs.Blocks.{cell_by}
use Rattle.html_tables.proofs.WalkLaws.{cell_of_table}
use Rattle.html_tables.proofs.table.Walk.cell_by.Goals as goal

pub returns-in-Cell : goal.returns-in-Cell
returns-in-Cell c = λ name token around is.
    let element = element_of name c.args.element.now in
    cell_of_table c.args.place element token around _ _ _ is.head (c.rows_spanned.ensures name)
    (c.columns_spanned.ensures name around.columns is.columns)
    ∙ ap (λ form. cell_by around c.args.place element (Some (token, form_shown_of form))) (sym c.in-Cell.is)
