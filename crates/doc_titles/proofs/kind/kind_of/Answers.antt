use Rattle.std.proofs.Common.{sym, ap, ◌∙◌}
use Rattle.map_spec.specs.Titles.{kind_of_document}
use Rattle.map_spec.specs.Written.{written_in}
use Rattle.doc_titles.proofs.kind.kind_of.Goals as goal

pub returns-in-Element : goal.returns-in-Element
returns-in-Element c = λ name. c.kind_of_root.ensures name
    ∙ sym (c.loop-rest.invariant name ∙ ap (λ t. kind_of_document (written_in name t)) c.in-Element.ensures.content)
