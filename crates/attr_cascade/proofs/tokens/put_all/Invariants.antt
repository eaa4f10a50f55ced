use Rattle.std.proofs.Common.{◌≡◌, [], take}
use Rattle.attr_cascade.specs.Tokens.{AreTexts, texts}
use Rattle.attr_cascade.proofs.tokens.put_all.Given as goal

abbrev pub invariant-loop-text : goal.invariant-loop-text
invariant-loop-text l = l.fn.tokens.items ≡ [] → l.fn.known.keys ≡ []
    → AreTexts l.tokens.items l.known.keys (texts (take l.text-index l.texts))
