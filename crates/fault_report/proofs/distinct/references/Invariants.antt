use Rattle.std.proofs.Common.{◌≡◌, map, take}
use Rattle.fault_report.proofs.distinct.references.Given as goal

abbrev pub invariant-loop-fault : goal.invariant-loop-fault
invariant-loop-fault l = map (λ fault. fault.now) l.all.items ≡ take l.fault-index l.faults
