use Rattle.std.proofs.Common.{◌++◌, ◌∙◌, ap, codes, sym}
use Rattle.doc_elements.specs.Walk.{element_of}
use Rattle.html_blocks.specs.Marks.{behind, class_text, texts_of}
use Rattle.html_blocks.specs.Opened.{class_by, note_begun}
use Rattle.html_forms.specs.Shown.{form_shown_of}
use Rattle.html_spec.specs.Blocks.{class_with}
use Rattle.html_blocks.proofs.TagLaws.{marked_note, text_as}
use Rattle.html_blocks.proofs.class.append_marked_class.Goals as goal

pub returns-in-Note : goal.returns-in-Note
returns-in-Note c = λ name.
    let element = element_of name c.args.element.now in
    let texts = texts_of c.args.marks in
    text_as c.append_marked_note.result c.args.out.now c.append_marked_note.new.out _
    (class_text (class_with texts (class_by element (form_shown_of c.args.form))))
    (ap (λ kind. note_begun kind ++ (behind texts ++ codes "\"")) (c.kind_of.ensures name)
    ∙ marked_note element texts
    ∙ ap (λ form. class_text (class_with texts (class_by element (form_shown_of form)))) (sym c.in-Note.is))
    c.append_marked_note.ensures
