use Rattle.std.proofs.Common.{◌∙◌, ap, sym}
use Rattle.doc_elements.specs.Walk.{element_of}
use Rattle.html_blocks.specs.Marks.{class_text}
use Rattle.html_blocks.specs.Opened.{class_by, note_text}
use Rattle.html_forms.specs.Shown.{form_shown_of}
use Rattle.html_blocks.proofs.TagLaws.{note_parts, text_as}
use Rattle.html_blocks.proofs.class.append_form_class.Goals as goal

pub returns-in-Note : goal.returns-in-Note
returns-in-Note c = λ name.
    let element = element_of name c.args.element.now in
    text_as c.append_note_class.result c.args.out.now c.append_note_class.new.out _
    (class_text (class_by element (form_shown_of c.args.form)))
    (ap note_text (c.kind_of.ensures name)
    ∙ note_parts element
    ∙ ap (λ form. class_text (class_by element (form_shown_of form)))
    (sym c.in-Note.is))
    c.append_note_class.ensures
