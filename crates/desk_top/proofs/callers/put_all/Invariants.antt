use Rattle.std.proofs.Common.{◌≡◌, ◌+◌, length}
use Rattle.std.specs.List.{All}
use Rattle.std.specs.Vec.Iter.{into_iter_items, into_iter_len}
use Rattle.script_text.specs.Facts.{IsInSession}
use Rattle.script_text.specs.Read.{steps_seen}
use Rattle.desk_top.specs.Served.{MayBeAsked}
use Rattle.desk_top.proofs.PileLaws.{AreFirstPiles}
use Rattle.desk_top.proofs.callers.put_all.Given as goal

abbrev pub invariant-loop-session : goal.invariant-loop-session
invariant-loop-session l = record {
  size : into_iter_len l.session-iterator ≡ length (into_iter_items l.session-iterator);
  sessions : All IsInSession (into_iter_items l.session-iterator);
  requests : All MayBeAsked (into_iter_items l.session-iterator);
  numbered : l.number + into_iter_len l.session-iterator ≡ length l.fn.steps;
  count : length l.piles ≡ 16;
  asked : All (λ pile. All MayBeAsked pile.items) l.piles;
  piles : AreFirstPiles (steps_seen l.fn.steps) l.number (steps_seen (into_iter_items l.session-iterator)) l.piles;
}
