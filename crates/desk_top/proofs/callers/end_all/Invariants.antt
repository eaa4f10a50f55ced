use Rattle.std.proofs.Common.{◌≡◌, ◌≤◌, ◌+◌, ◌*◌, false, length, map}
use Rattle.std.specs.List.{All}
use Rattle.std.specs.Prelude.{vec_capacity, vec_len}
use Rattle.std.specs.Vec.Iter.{into_iter_items, into_iter_len}
use Rattle.desk_lock.specs.Knows.{session_parts}
use Rattle.desk_lock.specs.Tokens.{IsPassOf, pass_view}
use Rattle.desk_top.specs.Asked.{TakesIn}
use Rattle.desk_top.specs.Served.{HasEnded, HasGiven, HasItsPages, IsWell, built_by, together, view_of}
use Rattle.desk_top.specs.SessionMade.{TakesRows}
use Rattle.desk_top.proofs.callers.end_all.Given as goal

abbrev pub invariant-loop-caller : goal.invariant-loop-caller
invariant-loop-caller l = record {
  size : into_iter_len l.caller-iterator ≡ length (into_iter_items l.caller-iterator);
  ended : All (HasEnded l.desk) (into_iter_items l.caller-iterator);
  of : IsPassOf l.desk l.pass;
  parts : (pass_view l.pass).parts + into_iter_len l.caller-iterator * session_parts
      ≡ (pass_view l.fn.pass).parts + vec_len l.fn.callers * session_parts;
  room : vec_len l.left + into_iter_len l.caller-iterator ≤ vec_capacity l.left;
  pages : All HasItsPages (together l.left.items);
  given : l.failed ≡ false → HasGiven (pass_view l.pass) (together l.left.items);
  left : l.left.items ≡ map built_by l.yielded;
  well : l.failed ≡ false → All IsWell l.yielded;
  takes : TakesIn (pass_view l.fn.pass) (map view_of l.yielded) (pass_view l.pass);
  rows : TakesRows (pass_view l.fn.pass) (map view_of l.yielded) (pass_view l.pass);
}
