-- How far the search has come, and what was noted on the way.
use Rattle.std.proofs.Common.{◌≡◌}
use Rattle.facts.specs.Latest.{Agrees}
use Rattle.facts.specs.Memo.{MayNote}
use Rattle.fact_table.specs.Noted.{AllHaveRows, MayClaim, judged_seen}
use Rattle.fact_table.specs.Shelf.{rows_seen}
use Rattle.fact_table.proofs.WalkLaws.{Walk}
use Rattle.fact_table.proofs.shelf.Shelf.find.Given as goal

abbrev pub invariant-loop-at : goal.invariant-loop-at
invariant-loop-at g l = record {
  walk : Walk (Agrees g.P.Parts.plan_agrees g.P.Parts.own_agrees) l.self.dropped (rows_seen l.self) l.key
      (g.J.Judge.sources l.fn.judge) l.at;
  sources : g.J.Judge.sources l.judge ≡ g.J.Judge.sources l.fn.judge;
  build : g.J.Judge.build l.judge ≡ g.J.Judge.build l.fn.judge;
  may : MayClaim g.P.Parts.plan_agrees g.P.Parts.own_agrees g.P.Parts.is_sound (rows_seen l.self)
      (judged_seen l.memo.items) l.key l.stamp (g.J.Judge.sources l.fn.judge) (g.J.Judge.build l.fn.judge);
  memo : MayNote g.P.Parts.plan_agrees (g.J.Judge.sources l.fn.judge) l.stamp (rows_seen l.self)
      (judged_seen l.fn.memo.items) (judged_seen l.memo.items);
  noted : AllHaveRows (rows_seen l.self) l.memo.items;
}

abbrev pub decreases-loop-at : goal.decreases-loop-at
decreases-loop-at g l = l.at
