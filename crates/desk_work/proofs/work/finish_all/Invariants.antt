-- What is so between two rounds, and what was done since the start.
use Rattle.std.specs.Arc.{arc_value}
use Rattle.std.specs.Option.{option_map}
use Rattle.desk_core.specs.Seen.{snapshot_seen}
use Rattle.desk_lock.specs.Tokens.{hand_view}
use Rattle.desk_work.specs.Attempts.{WorksOn, jobs_seen}
use Rattle.desk_work.specs.Sites.{ArePartsOf, HasMaker, IsAtWork, IsJudgeOf, basis_of}
use Rattle.desk_work.proofs.work.finish_all.Given as goal

abbrev pub invariant-loop : goal.invariant-loop
invariant-loop g l = record {
  at : IsAtWork l.site.desk.now (snapshot_seen l.site.snapshot.now) (option_map g.M.Makers.ready_row l.site.ready.now)
      l.hand;
  parts : ArePartsOf l.site.key.now (option_map g.M.Makers.ready_row l.site.ready.now) (jobs_seen l.jobs);
  judge : IsJudgeOf g.M.PartJudge.Judge.sources g.M.PartJudge.Judge.build l.site.key.now
      (arc_value l.site.snapshot.now.sources) l.bench.judge;
  maker : HasMaker g.M.Makers.maker_row g.M.Makers.maker_state (arc_value l.site.snapshot.now.sources)
      (option_map g.M.Makers.ready_row l.site.ready.now) l.bench.maker;
  works : WorksOn (basis_of g.P.Parts.plan_agrees g.P.Parts.own_agrees g.P.Parts.is_sound g.M.Makers.language
      (snapshot_seen l.site.snapshot.now)) (hand_view l.fn.hand) (jobs_seen l.fn.jobs) (hand_view l.hand)
      (jobs_seen l.jobs);
}
