use Rattle.std.proofs.Common.{◌≡◌, map, take}
use Rattle.fault_report.proofs.distinct.copy_all.Given as goal

abbrev pub invariant-loop-fault : goal.invariant-loop-fault
invariant-loop-fault l = l.copies ≡ map (λ fault. fault.now) (take l.fault-index l.faults)
