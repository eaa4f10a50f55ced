use Rattle.doc_elements.specs.Walk.{element_of}
use Rattle.html_tables.proofs.GroupLaws.{transparent_none, transparent_some}
use Rattle.html_tables.proofs.columns.is_transparent.Goals as goal

pub returns-then-has_no_token : goal.returns-then-has_no_token
returns-then-has_no_token c = λ name same.
    transparent_none (element_of name c.args.element.now) _ _ c.if-has_no_token.ensures (c.is_dita.ensures name) same

pub returns-else-has_no_token : goal.returns-else-has_no_token
returns-else-has_no_token c = λ name same.
    transparent_some (element_of name c.args.element.now) _ c.if-has_no_token.ensures same
