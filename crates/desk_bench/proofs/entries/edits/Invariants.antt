use Rattle.desk_lock.specs.Tokens.{IsPassOf}
use Rattle.desk_bench.proofs.entries.edits.Given as goal

-- the pass may be used again
abbrev pub invariant-loop-number : goal.invariant-loop-number
invariant-loop-number g l = IsPassOf l.desk l.pass
