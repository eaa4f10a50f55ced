use Rattle.std.proofs.Common.{◌≡◌, length}
use Rattle.std.specs.List.{All}
use Rattle.std.specs.Vec.Iter.{into_iter_items, into_iter_len}
use Rattle.desk_top.specs.Asked.{AsksAll, all_asked}
use Rattle.desk_top.specs.Served.{HasAnswered, IsAtDesk, MayBeAsked, known_by}
use Rattle.desk_top.proofs.callers.ask_all.Given as goal

abbrev pub invariant-loop-number : goal.invariant-loop-number
invariant-loop-number g l = record {
  size : into_iter_len l.number-iterator ≡ length (into_iter_items l.number-iterator);
  requests : All MayBeAsked (into_iter_items l.number-iterator);
  at : IsAtDesk l.desk l.session;
  answered : HasAnswered l.session;
  asked : AsksAll (known_by l.fn.session) (all_asked l.yielded) (known_by l.session);
}
