use Rattle.std.proofs.Common.{◌∷◌, ap, ◌∙◌}
use Rattle.transcript_text.specs.Words.{words_in}
use Rattle.transcript_text.proofs.TextLaws.{reply_many}
use Rattle.transcript_text.proofs.below.read_some.Goals as goal

pub returns-in-Some-rest : goal.returns-in-Some-rest
returns-in-Some-rest c =
    rw c.in-Some.is
    (reply_many c.args.word.now c.args.second.now c.in-Some.rest.now c.split_word.result.0.now c.in-Some-rest.field-0.now
    (c.split_word.ensures ∙ ap (λ rest. c.split_word.result.0.now ∷ words_in rest) c.in-Some-rest.is))
