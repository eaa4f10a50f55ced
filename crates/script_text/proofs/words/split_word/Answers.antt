use Rattle.std.proofs.Common.{◌∙◌}
use Rattle.script_text.proofs.WordLaws.{word_first, one_word}
use Rattle.script_text.proofs.words.split_word.Goals as goal

pub returns-then-not-is_empty : goal.returns-then-not-is_empty
returns-then-not-is_empty c =
    let some = rw c.if-not-is_empty.true at c.is_empty.ensures in
    c.loop-word.invariant.words ∙ word_first _ _ _ c.in-Some.ensures some

pub returns-else-is_empty : goal.returns-else-is_empty
returns-else-is_empty c = c.loop-word.invariant.words ∙ one_word _ c.in_default.ensures c.if-is_empty.ensures
