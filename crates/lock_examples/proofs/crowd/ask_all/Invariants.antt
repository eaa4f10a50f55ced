use Rattle.desk_lock.specs.Tokens.{IsPassOf}
use Rattle.lock_examples.proofs.crowd.ask_all.Given as goal

-- the pass may be used again
abbrev pub invariant-loop-number : goal.invariant-loop-number
invariant-loop-number g l = IsPassOf l.desk l.pass
