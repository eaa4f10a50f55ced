use Rattle.std.proofs.Common.{◌≡◌, length}
use Rattle.std.specs.List.{All}
use Rattle.std.specs.Vec.Iter.{into_iter_items, into_iter_len}
use Rattle.script_text.specs.Facts.{IsOwnStep}
use Rattle.script_text.specs.Read.{steps_seen}
use Rattle.desk_top.specs.Runs.{IsOfDesk}
use Rattle.desk_top.proofs.RunLaws.{HasAnswered}
use Rattle.desk_top.proofs.run.answer_all.Given as goal

abbrev pub invariant-loop-session : goal.invariant-loop-session
invariant-loop-session g l = record {
  size : into_iter_len l.session-iterator ≡ length (into_iter_items l.session-iterator);
  own : All IsOwnStep (into_iter_items l.session-iterator);
  desk : IsOfDesk l.store;
  answered : HasAnswered l.fn.with_terms (steps_seen l.fn.script.steps) l.store.history
      (steps_seen (into_iter_items l.session-iterator)) l.text (g.O.Outlet.pages l.fn.outlet)
      (g.O.Outlet.pages l.outlet);
  counted : g.O.Outlet.faults l.outlet ≡ g.O.Outlet.faults l.fn.outlet;
}
