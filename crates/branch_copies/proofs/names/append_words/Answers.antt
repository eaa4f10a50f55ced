use Rattle.branch_copies.proofs.SeenLaws.{new_word, old_word}
use Rattle.branch_copies.proofs.names.append_words.Goals as goal

pub loop-word-preserved-in_ok-push : goal.loop-word-preserved-in_ok-push
loop-word-preserved-in_ok-push c =
    let step = new_word c.loop-word.names c.loop-word.seen.keys c.push.new.self c.insert.new.self.keys
    c.in-Some-word.word c.in_ok-clone.field-0 _ _ _ c.in_ok-insert.field-0 c.loop-word.invariant.seen
    c.in_ok-clone.ensures.cases c.in_ok-insert.ensures.added c.in_ok-insert.ensures.keys c.if-branch.true
    c.in_ok-push.ensures c.in-Some-word.ensures.steps.0 c.loop-word.invariant.words in
    record { words = step.0; seen = step.1 }

pub loop-word-preserved-else-branch : goal.loop-word-preserved-else-branch
loop-word-preserved-else-branch c =
    let step = old_word c.loop-word.names c.loop-word.seen.keys c.insert.new.self.keys
    c.in-Some-word.word c.in_ok-clone.field-0 _ _ _ c.in_ok-insert.field-0 c.loop-word.invariant.seen
    c.in_ok-clone.ensures.cases c.in_ok-insert.ensures.added c.in_ok-insert.ensures.unchanged c.if-branch.false
    c.in-Some-word.ensures.steps.0 c.loop-word.invariant.words in
    record { words = step.0; seen = step.1 }

pub loop-word-preserved : goal.loop-word-preserved
loop-word-preserved c =
    let step = old_word c.loop-word.names c.loop-word.seen.keys c.insert.new.self.keys
    c.in-Some-word.word c.in_ok-clone.field-0 _ _ _ c.in_ok-insert.field-0 c.loop-word.invariant.seen
    c.in_ok-clone.ensures.cases c.in_ok-insert.ensures.added c.in_ok-insert.ensures.unchanged c.if-branch.false
    c.in-Some-word.ensures.steps.0 c.loop-word.invariant.words in
    record { words = step.0; seen = step.1 }
