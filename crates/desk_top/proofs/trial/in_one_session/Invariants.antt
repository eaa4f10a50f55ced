use Rattle.std.proofs.Common.{◌≡◌, ◌+◌, ◌++◌, length, map}
use Rattle.std.specs.List.{All}
use Rattle.std.specs.Vec.Iter.{into_iter_items, into_iter_len}
use Rattle.run_spec.specs.EndsTrial.{in_one_session}
use Rattle.script_text.specs.Facts.{HasFew, HasUtf8, IsInSession, IsOwnStep}
use Rattle.script_text.specs.Read.{steps_seen}
use Rattle.desk_top.specs.Served.{MayBeAsked}
use Rattle.desk_top.proofs.trial.in_one_session.Given as goal

abbrev pub invariant-loop-request : goal.invariant-loop-request
invariant-loop-request l = record {
  size : into_iter_len l.request-iterator ≡ length (into_iter_items l.request-iterator);
  utf8 : All HasUtf8 (into_iter_items l.request-iterator);
  few : All HasFew (into_iter_items l.request-iterator);
  own : All IsOwnStep (into_iter_items l.request-iterator);
  many : length l.same + into_iter_len l.request-iterator ≡ length l.fn.script.steps;
  told : steps_seen l.same ++ map in_one_session (steps_seen (into_iter_items l.request-iterator))
      ≡ map in_one_session (steps_seen l.fn.script.steps);
  sessions : All IsInSession l.same;
  asked : All MayBeAsked l.same;
}
