use Rattle.std.proofs.Common.{◌∙◌, arith}
use Rattle.script_text.proofs.WordLaws.{digit_at, digit_more, value_step}
use Rattle.script_text.proofs.words.value_of.Goals as goal

pub overflow_mul-value : goal.overflow_mul-value
overflow_mul-value c =
    let small = c.loop-digit.invariant.small in
    let more = digit_more c.loop-digit.value 0 c.loop-digit.digit-index small (omega arith) (omega arith) in
    omega arith

pub overflow_add-value : goal.overflow_add-value
overflow_add-value c =
    let digit = digit_at c.args.digits.now c.loop-digit.digit-index c.requires.all c.loop-digit-test.true in
    let small = c.loop-digit.invariant.small in
    let more = digit_more c.loop-digit.value c.from.result c.loop-digit.digit-index small (omega arith) (omega arith) in
    omega arith

pub loop-digit-preserved : goal.loop-digit-preserved
loop-digit-preserved c =
    let digit = digit_at c.args.digits.now c.loop-digit.digit-index c.requires.all c.loop-digit-test.true in
    let small = c.loop-digit.invariant.small in
    let more = digit_more c.loop-digit.value c.from.result c.loop-digit.digit-index small (omega arith) (omega arith) in
    record {
      same = c.loop-digit.invariant.same ∙ rw c.from.ensures (value_step _ _ _ c.loop-digit-test.true);
      small = more.1;
    }
