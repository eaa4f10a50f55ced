use Rattle.doc_elements.specs.Walk.{element_of}
use Rattle.html_spec.specs.Anchors.{is_reference_form}
use Rattle.html_spec.specs.Blocks.{row_for}
use Rattle.xref_links.proofs.FormLaws.{form_none, form_some}
use Rattle.xref_links.proofs.link.is_reference.Goals as goal

pub returns-in-Some : goal.returns-in-Some
returns-in-Some c = λ name.
    form_some is_reference_form c.form_of.result c.in-Some.form (row_for (element_of name c.args.element.now))
    c.is_reference_form.result c.in-Some.is c.is_reference_form.ensures (c.form_of.ensures name)

pub returns-in-None : goal.returns-in-None
returns-in-None c = λ name.
    form_none is_reference_form c.form_of.result (row_for (element_of name c.args.element.now)) c.in-None.is
    (c.form_of.ensures name)
