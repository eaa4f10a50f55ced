use Rattle.std.proofs.Common.{◌<◌, length}
use Rattle.desk_work.proofs.deal.least.Given as goal

abbrev pub invariant-loop-place : goal.invariant-loop-place
invariant-loop-place l = l.found < length l.loads
