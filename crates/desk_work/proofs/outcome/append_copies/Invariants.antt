use Rattle.std.proofs.Common.{◌≡◌, ◌++◌, take}
use Rattle.desk_work.proofs.outcome.append_copies.Given as goal

abbrev pub invariant-loop-fault : goal.invariant-loop-fault
invariant-loop-fault l = l.faults ≡ l.fn.faults ++ take l.fault-index l.more
