use Rattle.std.proofs.Common.{take}
use Rattle.map_spec.specs.Cascade.{with_new}
use Rattle.attr_cascade.specs.Tokens.{AreTexts, Texts, texts}
use Rattle.attr_cascade.proofs.tokens.put_new.Given as goal

abbrev pub invariant-loop-text : goal.invariant-loop-text
invariant-loop-text l = (all : Texts) → AreTexts l.fn.tokens.items l.fn.known.keys all
    → AreTexts l.tokens.items l.known.keys (with_new all (texts (take l.text-index l.texts)))
