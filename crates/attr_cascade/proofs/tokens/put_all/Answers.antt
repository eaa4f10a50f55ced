use Rattle.std.proofs.Common.{subst, sym}
use Rattle.attr_cascade.specs.Tokens.{AreTexts, texts}
use Rattle.attr_cascade.proofs.TextLaws.{both_put, no_str, take_texts}
use Rattle.std.proofs.Common.{get_or}
use Rattle.std.specs.Prelude.{take}
use Rattle.attr_cascade.proofs.tokens.put_all.Goals as goal

pub loop-text-preserved : goal.loop-text-preserved
loop-text-preserved c = λ none empty.
    let all = c.args.texts.now in
    let at = c.loop-text.text-index in
    subst (AreTexts c.push.new.self.items c.insert.new.self.keys) (sym (take_texts all at c.loop-text-test.true))
    (both_put c.loop-text.tokens.items c.push.new.self.items c.loop-text.known.keys c.insert.new.self.keys
    (get_or all at no_str) (texts (take at all)) (c.loop-text.invariant none empty) c.in_ok-push.ensures.items
    c.in_ok-insert.ensures.keys)
