use Rattle.desk_core.specs.Seen.{snapshot_seen}
use Rattle.desk_lock.specs.Knows.{all_parts}
use Rattle.desk_bench.specs.Bench.{Has, Works}
use Rattle.desk_bench.proofs.table.fill.Given as goal

-- all hands are back
abbrev pub invariant-loop-names : goal.invariant-loop-names
invariant-loop-names g l = Has l.desk l.pass all_parts

abbrev pub invariant-loop-index : goal.invariant-loop-index
invariant-loop-index g l = Works l.desk l.hand (snapshot_seen l.snapshot)
