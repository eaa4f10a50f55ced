use Rattle.transcript_text.proofs.TextLaws.{name_text_words, name_text_by}
use Rattle.transcript_text.proofs.below.is_name_text.Goals as goal

pub returns-in_default : goal.returns-in_default
returns-in_default c =
    λ is. let told = name_text_words _ is in c.in_default.ensures told.name told.rest told.named told.words

pub returns : goal.returns
returns c =
    name_text_by c.args.text.now c.in-Some.field-0-0.now _ c.ends_with_number.result c.in-Some.ensures.1
    c.in-Some.ensures.0 c.ends_with_number.ensures
