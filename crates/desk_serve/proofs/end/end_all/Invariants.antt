use Rattle.std.proofs.Common.{◌≡◌, ◌+◌, length}
use Rattle.std.specs.Prelude.{vec_len}
use Rattle.std.specs.Vec.Iter.{into_iter_items, into_iter_len}
use Rattle.desk_lock.specs.Tokens.{IsPassOf, pass_view}
use Rattle.desk_serve.specs.Accepting.{AreBegun}
use Rattle.desk_serve.specs.Ending.{EndsAll}
use Rattle.desk_serve.proofs.end.end_all.Given as goal

abbrev pub invariant-loop-session : goal.invariant-loop-session
invariant-loop-session g l = record {
  size : into_iter_len l.session-iterator ≡ length (into_iter_items l.session-iterator);
  count : length l.yielded + into_iter_len l.session-iterator ≡ vec_len l.fn.running;
  of : IsPassOf l.desk l.pass;
  begun : AreBegun g.B.Builds.clean g.D.Connection.Link.told l.desk (pass_view l.fn.pass).limits
      (length l.yielded + 1) (into_iter_items l.session-iterator);
  ends : EndsAll g.B.Builds.clean g.D.Connection.Link.told (pass_view l.fn.pass) (g.D.Door.told l.fn.door)
      l.yielded (pass_view l.pass) (g.D.Door.told l.door) l.lost;
}
