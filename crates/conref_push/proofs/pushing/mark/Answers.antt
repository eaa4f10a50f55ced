use Rattle.std.proofs.Common.{rules}
use Rattle.conref_push.proofs.pushing.mark.Goals as goal

pub returns-then-eq : goal.returns-then-eq
returns-then-eq c = λ name. search rules

pub returns-else-eq : goal.returns-else-eq
returns-else-eq c = λ name. search rules
