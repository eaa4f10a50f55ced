use Rattle.std.proofs.Common.{[], unwrap_or, ap, ◌∙◌}
use Rattle.dita_doc.proofs.Lists.{read_or}
use Rattle.topic_find.proofs.node.id_of.Goals as goal

pub returns : goal.returns
returns c = λ name.
    ap (λ text. text.now) c.unwrap_or.ensures
    ∙ read_or c.value_of.result _
    ∙ ap (λ value. unwrap_or value []) c.value_of.ensures
