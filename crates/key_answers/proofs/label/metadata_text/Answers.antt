use Rattle.key_answers.proofs.TextLaws.{first_of_three}
use Rattle.key_answers.proofs.label.metadata_text.Goals as goal

pub returns : goal.returns
returns c = λ name.
    first_of_three c.text_under-3.result c.in_ok-keyword.keyword c.in_ok-link.link _ _ _ c.is_empty.result
    c.is_empty-2.result (c.in_ok-keyword.ensures name) (c.in_ok-link.ensures name) c.is_empty.ensures
    c.if-not-is_empty.false c.is_empty-2.ensures c.if-not-is_empty-2.false (c.text_under-3.ensures name)
