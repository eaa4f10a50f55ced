use Rattle.desk_core.specs.Seen.{snapshot_seen}
use Rattle.desk_core.specs.Steps.{IsSnapshotOf}
use Rattle.desk_lock.specs.Tokens.{IsHandOf, hand_view}
use Rattle.lock_examples.proofs.rush.work.Given as goal

-- the hand may claim again
abbrev pub invariant-loop : goal.invariant-loop
invariant-loop g l =
    IsHandOf l.desk l.hand × IsSnapshotOf (hand_view l.hand).seen (snapshot_seen l.snapshot)
