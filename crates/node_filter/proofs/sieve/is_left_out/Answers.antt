use Rattle.std.proofs.Common.{rules}
use Rattle.node_filter.proofs.sieve.is_left_out.Goals as goal

pub returns-then-at-gt0 : goal.returns-then-at-gt0
returns-then-at-gt0 c = λ name. search rules

pub returns-else-at-gt0 : goal.returns-else-at-gt0
returns-else-at-gt0 c = λ name. search rules
