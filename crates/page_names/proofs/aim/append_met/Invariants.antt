use Rattle.std.proofs.Common.{◌≡◌, ◌++◌}
use Rattle.std.specs.Vec.Iter.{into_iter_items}
use Rattle.page_names.proofs.aim.append_met.Given as goal

abbrev pub invariant-loop-fault : goal.invariant-loop-fault
invariant-loop-fault l = l.faults ++ into_iter_items l.fault-iterator ≡ l.fn.faults ++ l.fn.met
