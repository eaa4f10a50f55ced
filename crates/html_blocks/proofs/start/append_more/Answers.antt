use Rattle.std.proofs.Common.{ap, sym}
use Rattle.std.specs.Option.{option_copied}
use Rattle.doc_elements.specs.Walk.{element_of}
use Rattle.html_blocks.specs.Opened.{more_by}
use Rattle.html_forms.specs.Shown.{form_shown_of}
use Rattle.html_blocks.proofs.TagLaws.{text_as}
use Rattle.html_blocks.proofs.start.append_more.Goals as goal

pub returns-in-Cell : goal.returns-in-Cell
returns-in-Cell c = λ name around has.
    let element = element_of name c.args.element.now in
    let href = option_copied c.args.link.href in
    text_as c.append_spans.result c.args.out.now c.append_spans.new.out _
    (more_by around href element (form_shown_of c.args.form))
    (ap (λ form. more_by around href element (form_shown_of form)) (sym c.in-Cell.is))
    (c.append_spans.ensures name around has)
