use Rattle.std.proofs.Common.{◌≡◌, ◌++◌, drop}
use Rattle.std.specs.List.{flat_map}
use Rattle.reltable_links.specs.RowTable.{lost_fault}
use Rattle.reltable_links.proofs.faults.append_faults.Given as goal

abbrev pub invariant-loop-at : goal.invariant-loop-at
invariant-loop-at l = l.faults ++ flat_map (lost_fault l.plan) (drop l.at-index l.lost)
    ≡ l.fn.faults ++ flat_map (lost_fault l.plan) l.lost
