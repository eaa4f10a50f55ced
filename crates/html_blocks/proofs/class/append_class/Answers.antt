use Rattle.std.proofs.Common.{sym}
use Rattle.doc_elements.specs.Walk.{element_of}
use Rattle.html_blocks.specs.Opened.{class_by}
use Rattle.html_forms.specs.Shown.{form_shown_of}
use Rattle.html_blocks.proofs.MarkLaws.{class_behind_none}
use Rattle.html_blocks.proofs.TagLaws.{text_as}
use Rattle.html_blocks.proofs.class.append_class.Goals as goal

pub returns-then-is_empty : goal.returns-then-is_empty
returns-then-is_empty c = λ name.
    let class = class_by (element_of name c.args.element.node.now) (form_shown_of c.args.form) in
    text_as c.append_form_class.result c.args.out.now c.append_form_class.new.out _ _
    (class_behind_none c.args.marks.now.marks.now c.args.element.place class (sym c.if-is_empty.ensures))
    (c.append_form_class.ensures name)
