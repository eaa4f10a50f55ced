use Rattle.std.proofs.Common.{◌∷◌, ap, ◌∙◌}
use Rattle.transcript_text.specs.Words.{words_in}
use Rattle.transcript_text.proofs.TextLaws.{refusal_many}
use Rattle.transcript_text.proofs.below.is_refusal.Goals as goal

pub returns-in-Some-rest-2 : goal.returns-in-Some-rest-2
returns-in-Some-rest-2 c =
    refusal_many c.args.words.now c.split_word.result.0.now c.in-Some.rest.now c.split_word-2.result.0.now
    c.in-Some-rest.rest.now c.split_word-3.result.0.now c.in-Some-rest-2.field-0.now
    (c.split_word.ensures ∙ ap (λ rest. c.split_word.result.0.now ∷ words_in rest) c.in-Some.is)
    (c.split_word-2.ensures ∙ ap (λ rest. c.split_word-2.result.0.now ∷ words_in rest) c.in-Some-rest.is)
    (c.split_word-3.ensures ∙ ap (λ rest. c.split_word-3.result.0.now ∷ words_in rest) c.in-Some-rest-2.is)
