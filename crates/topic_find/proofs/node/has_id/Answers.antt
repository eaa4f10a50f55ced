use Rattle.std.proofs.Common.{rules}
use Rattle.topic_find.proofs.node.has_id.Goals as goal

pub returns : goal.returns
returns c = λ name. search rules
