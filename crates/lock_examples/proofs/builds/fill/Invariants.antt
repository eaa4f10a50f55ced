use Rattle.std.proofs.Common.{◌≡◌}
use Rattle.desk_lock.specs.Tokens.{IsPassOf, pass_view}
use Rattle.lock_examples.proofs.builds.fill.Given as goal

-- the pass may be used again, and has the parts that it had
abbrev pub invariant-loop-number : goal.invariant-loop-number
invariant-loop-number g l =
    IsPassOf l.desk l.pass × ((pass_view l.pass).parts ≡ (pass_view l.fn.pass).parts)
