use Rattle.std.proofs.Common.{◌≡◌}
use Rattle.desk_lock.specs.Tokens.{IsPassOf, pass_view}
use Rattle.whole_examples.proofs.no_room.store_all.Given as goal

-- the pass may be used again, and has the parts that it had
abbrev pub invariant-loop-request : goal.invariant-loop-request
invariant-loop-request g l =
    IsPassOf l.desk l.pass × ((pass_view l.pass).parts ≡ (pass_view l.fn.pass).parts)
