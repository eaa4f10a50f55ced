use Rattle.std.proofs.Common.{◌≡◌}
use Rattle.desk_lock.specs.Tokens.{desk_id}
use Rattle.desk_lock.proofs.desk.Desk.take.Given as goal

-- a try that found the gate shut changed nothing of the seat
abbrev pub invariant-loop : goal.invariant-loop
invariant-loop g l =
    (goal.iterator-loop g).can_next l.iterator' × (goal.iterator-loop g).is_finite l.iterator'
    × (l.seat.table_id ≡ desk_id l.self) × (l.seat.me ≡ l.fn.seat.me)
