use Rattle.std.proofs.Common.{rules}
use Rattle.conref_push.proofs.target_docs.topic_named.Goals as goal

pub returns-then-is_same_topic : goal.returns-then-is_same_topic
returns-then-is_same_topic c = search rules
