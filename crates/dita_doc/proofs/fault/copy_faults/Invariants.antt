use Rattle.std.proofs.Common.{◌≡◌, take}
use Rattle.dita_doc.proofs.fault.copy_faults.Given as goal

abbrev pub invariant-loop-fault : goal.invariant-loop-fault
invariant-loop-fault l = l.copies ≡ take l.fault-index l.faults
