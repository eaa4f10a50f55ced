use Rattle.std.proofs.Common.{◌≡◌, ◌++◌}
use Rattle.std.specs.Vec.Iter.{into_iter_items}
use Rattle.doc_elements.proofs.faults.append_faults.Given as goal

abbrev pub invariant-loop-fault : goal.invariant-loop-fault
invariant-loop-fault l = l.out ++ into_iter_items l.fault-iterator ≡ l.fn.out ++ l.fn.faults
