use Rattle.topic_find.proofs.topics.has_id_wanted.Goals as goal

pub returns-in-Some : goal.returns-in-Some
returns-in-Some c = λ name. rw c.in-Some.is (c.has_id.ensures name)
