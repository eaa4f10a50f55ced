use Rattle.std.proofs.Common.{◌≡◌, ◌≤◌, length}
use Rattle.std.specs.Prelude.{vec_capacity}
use Rattle.desk_serve.specs.Accepting.{HasAccepted}
use Rattle.desk_serve.proofs.accept.accept_in.Given as goal

abbrev pub invariant-loop-before : goal.invariant-loop-before
invariant-loop-before g l = record {
  has : HasAccepted g.B.Builds.clean g.D.Connection.Link.told l.desk (g.D.Door.told l.fn.door)
      (g.D.Door.told l.door) l.accepted;
  count : length l.accepted.running.items ≡ l.before;
  room : l.connections ≤ vec_capacity l.accepted.running;
  same : (g.D.Door.told l.door).faults ≡ (g.D.Door.told l.fn.door).faults;
}
