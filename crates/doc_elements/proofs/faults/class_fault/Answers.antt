use Rattle.std.proofs.Common.{[], ◌∷◌, Some, None, ap, ◌∙◌}
use Rattle.dita_doc.specs.declared.fault.FaultCode.TheVariants as faults
use Rattle.map_spec.specs.Elements.{fault_at}
use Rattle.doc_elements.specs.Walk.{element_of}
use Rattle.doc_elements.proofs.FaultLaws.{no_fault, one_fault}
use Rattle.doc_elements.proofs.faults.class_fault.Goals as goal

pub returns-then-not-is_transparent : goal.returns-then-not-is_transparent
returns-then-not-is_transparent c =
    let name = c.args.name.now in
    no_fault (element_of name c.args.element.now) (c.if-not-is_transparent.ensures name)

pub returns-in_default : goal.returns-in_default
returns-in_default c =
    let name = c.args.name.now in
    let element = element_of name c.args.element.now in
    ap (λ fault. fault ∷ [])
    (c.in_ok-fault_at.ensures ∙ ap (fault_at element faults.NoClass) c.as_str-element_name.ensures)
    ∙ one_fault element None (c.if-not-is_transparent.ensures name) c.in_default.ensures

pub returns : goal.returns
returns c =
    let name = c.args.name.now in
    let element = element_of name c.args.element.now in
    ap (λ fault. fault ∷ []) c.in_ok-fault_at-2.ensures
    ∙ one_fault element (Some c.in-Some.value.now) (c.if-not-is_transparent.ensures name) c.in-Some.ensures
