use Rattle.std.proofs.Common.{refl}
use Rattle.topic_find.proofs.elements.is_meant.Goals as goal

pub returns-then-is_topic : goal.returns-then-is_topic
returns-then-is_topic c = λ name typed. rw (← typed, c.if-is_topic.true) refl

pub returns-then-has_id : goal.returns-then-has_id
returns-then-has_id c = λ name typed.
    rw (← typed, c.if-is_topic.false, ← c.if-has_id.ensures name) c.is_in_topic.ensures

pub returns-else-has_id : goal.returns-else-has_id
returns-else-has_id c = λ name typed. rw (← typed, c.if-is_topic.false, ← c.if-has_id.ensures name) c.if-has_id.false
