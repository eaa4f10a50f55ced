use Rattle.attr_cascade.proofs.TextLaws.{spaced_more}
use Rattle.attr_cascade.proofs.tokens.spaced.Goals as goal

pub loop-at-preserved : goal.loop-at-preserved
loop-at-preserved c = spaced_more c.args.tokens.now c.loop-at.at c.loop-at.value c.append_token.new.value
    c.loop-at-test.true c.loop-at.invariant c.in_ok-append_token.ensures
