use Rattle.std.proofs.Common.{◌∙◌}
use Rattle.doc_elements.specs.Walk.{element_of}
use Rattle.index_page.proofs.TermLaws.{apart_base, apart_term}
use Rattle.index_page.proofs.text.is_apart.Goals as goal

pub returns-then-is_term : goal.returns-then-is_term
returns-then-is_term c = λ name.
    c.if-is_term.true ∙ apart_term (element_of name c.args.element.now) (c.if-is_term.ensures name)

pub returns-else-is_term : goal.returns-else-is_term
returns-else-is_term c = λ name.
    apart_base (element_of name c.args.element.now) c.has_type.result (c.if-is_term.ensures name) c.has_type.ensures
