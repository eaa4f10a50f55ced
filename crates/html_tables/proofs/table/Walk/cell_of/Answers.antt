use Rattle.std.proofs.Common.{ap, ◌∙◌}
use Rattle.doc_elements.specs.Walk.{element_of}
use Rattle.html_forms.specs.Shown.{row_among}
use Rattle.html_spec.specs.Blocks.{cell_by}
use Rattle.html_tables.proofs.table.Walk.cell_of.Goals as goal

pub returns-in-Some : goal.returns-in-Some
returns-in-Some c = λ name around is.
    c.cell_by.ensures name c.in-Some.field-0-0.now around is
    ∙ ap (cell_by around c.args.place (element_of name c.args.element.now))
    (c.in-Some.ensures ∙ ap row_among (c.tokens_of.ensures name))

pub returns-in-None : goal.returns-in-None
returns-in-None c = λ name around is.
    ap (cell_by around c.args.place (element_of name c.args.element.now))
    (c.in-None.ensures ∙ ap row_among (c.tokens_of.ensures name))
