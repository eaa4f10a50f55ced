use Rattle.std.proofs.Common.{true, false, not, refl, ap, ◌∙◌}
use Rattle.doc_elements.specs.Walk.{element_of}
use Rattle.doc_elements.proofs.ChildLaws.{transparent_by}
use Rattle.doc_elements.proofs.types.is_transparent.Goals as goal

pub returns-else-not-has_types : goal.returns-else-not-has_types
returns-else-not-has_types c = λ name.
    let element = element_of name c.args.element.now in
    ap not c.if-not-has_types.false
    ∙ transparent_by element true element.name (c.if-not-has_types.ensures name) refl

pub returns-then-not-has_types : goal.returns-then-not-has_types
returns-then-not-has_types c = λ name.
    let element = element_of name c.args.element.now in
    ap not (c.is_dita.ensures name)
    ∙ transparent_by element false element.name (c.if-not-has_types.ensures name) refl
