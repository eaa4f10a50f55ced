use Rattle.std.proofs.Common.{rules}
use Rattle.conref_push.proofs.pushing.push_kind.Goals as goal

pub returns-then-eq-2 : goal.returns-then-eq-2
returns-then-eq-2 c = λ name. search rules
