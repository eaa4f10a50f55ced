use Rattle.std.proofs.Common.{rules}
use Rattle.topic_find.proofs.elements.is_topic_meant.Goals as goal

pub returns-in-WithId : goal.returns-in-WithId
returns-in-WithId c = search rules

pub returns-in-At : goal.returns-in-At
returns-in-At c = search rules
