use Rattle.std.proofs.Common.{◌∙◌, sym}
use Rattle.key_answers.specs.Seen.{text_seen}
use Rattle.key_answers.proofs.TextLaws.{text_passed, text_taken}
use Rattle.key_answers.proofs.label.own_text.Goals as goal

pub returns-then-not-is_empty : goal.returns-then-not-is_empty
returns-then-not-is_empty c = sym (
    c.loop-at.invariant
    ∙ text_taken (text_seen c.args.defined.homes.now) c.args.met.now c.loop-at.at-index c.in_ok-text.text
    c.is_empty.result c.loop-at-test.true c.in_ok-text.ensures c.is_empty.ensures c.if-not-is_empty.true
    )

pub loop-at-preserved : goal.loop-at-preserved
loop-at-preserved c =
    c.loop-at.invariant
    ∙ text_passed (text_seen c.args.defined.homes.now) c.args.met.now c.loop-at.at-index c.in_ok-text.text
    c.is_empty.result c.loop-at-test.true c.in_ok-text.ensures c.is_empty.ensures c.if-not-is_empty.false
