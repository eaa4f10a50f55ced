use Rattle.desk_core.specs.Seen.{snapshot_seen}
use Rattle.desk_bench.specs.Bench.{Works}
use Rattle.desk_bench.proofs.crowd.claim_all.Given as goal

-- the hand may claim again
abbrev pub invariant-loop : goal.invariant-loop
invariant-loop g l = Works l.desk l.hand (snapshot_seen l.snapshot)
