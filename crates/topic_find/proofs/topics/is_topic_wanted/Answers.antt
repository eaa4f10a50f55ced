use Rattle.topic_find.proofs.topics.is_topic_wanted.Goals as goal

pub returns-then-is_topic : goal.returns-then-is_topic
returns-then-is_topic c = λ name. rw (← c.if-is_topic.ensures name) (c.has_id_wanted.ensures name)

pub returns-else-is_topic : goal.returns-else-is_topic
returns-else-is_topic c = λ name. rw (← c.if-is_topic.ensures name) c.if-is_topic.false
