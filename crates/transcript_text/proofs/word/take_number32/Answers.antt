use Rattle.std.proofs.Common.{◌<◌, ◌^◌, ap, ◌∙◌, arith}
use Rattle.transcript_text.specs.Words.{words_in}
use Rattle.transcript_text.proofs.NumberLaws.{not_taken}
use Rattle.transcript_text.proofs.word.take_number32.Goals as goal

pub returns-in_err-number32 : goal.returns-in_err-number32
returns-in_err-number32 c = rw c.from_residual-in_err-number32.ensures (λ n more less is.
    let small : n < 2 ^ 64 = omega arith in
    not_taken 32 n _ _ _ more
    (ap words_in c.in_ok-rest.was ∙ c.split_word.ensures) c.in_err-number32.ensures less small is)
