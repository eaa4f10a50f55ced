use Rattle.doc_elements.specs.Walk.{element_of}
use Rattle.index_page.proofs.TermLaws.{term_by}
use Rattle.index_page.proofs.text.is_term.Goals as goal

pub returns : goal.returns
returns c = λ name. term_by (element_of name c.args.element.now) c.has_type.result c.has_type.ensures
