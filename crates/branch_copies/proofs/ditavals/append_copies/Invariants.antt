use Rattle.std.proofs.Common.{◌≡◌, ◌++◌, take}
use Rattle.branch_copies.proofs.ditavals.append_copies.Given as goal

abbrev pub invariant-loop-fault : goal.invariant-loop-fault
invariant-loop-fault l = l.out ≡ l.fn.out ++ take l.fault-index l.faults
