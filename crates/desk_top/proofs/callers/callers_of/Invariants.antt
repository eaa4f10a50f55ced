use Rattle.std.proofs.Common.{◌≡◌, ◌≤◌, ◌+◌, ◌*◌, length, map}
use Rattle.std.specs.List.{All}
use Rattle.std.specs.Prelude.{vec_capacity, vec_len}
use Rattle.std.specs.Vec.Iter.{into_iter_items, into_iter_len}
use Rattle.desk_lock.specs.Knows.{all_parts, session_parts}
use Rattle.desk_lock.specs.Tokens.{IsPassOf, pass_view}
use Rattle.desk_top.specs.Asked.{HasNone}
use Rattle.desk_top.specs.Served.{AreInOrder, IsReady, MayBeAsked}
use Rattle.desk_top.proofs.callers.callers_of.Given as goal

abbrev pub invariant-loop-asked : goal.invariant-loop-asked
invariant-loop-asked l = record {
  size : into_iter_len l.asked-iterator ≡ length (into_iter_items l.asked-iterator);
  requests : All (λ pile. All MayBeAsked pile.items) (into_iter_items l.asked-iterator);
  numbered : l.number + into_iter_len l.asked-iterator ≡ 16;
  count : vec_len l.callers ≡ l.number;
  room : 16 ≤ vec_capacity l.callers;
  of : IsPassOf l.desk l.pass;
  parts : (pass_view l.pass).parts + l.number * session_parts ≡ all_parts;
  none : HasNone (pass_view l.pass);
  limits : (pass_view l.pass).limits ≡ (pass_view l.fn.pass).limits;
  ready : All (IsReady l.desk) l.callers.items;
  order : AreInOrder l.callers.items;
  asked : map (λ caller. caller.asked) l.callers.items ≡ l.yielded;
}
