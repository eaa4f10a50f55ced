use Rattle.desk_core.specs.Seen.{snapshot_seen}
use Rattle.desk_bench.specs.Bench.{Works}
use Rattle.desk_bench.proofs.table.work_all.Given as goal

-- the hand may claim again
abbrev pub invariant-loop-time : goal.invariant-loop-time
invariant-loop-time g l = Works l.desk l.hand (snapshot_seen l.snapshot)
