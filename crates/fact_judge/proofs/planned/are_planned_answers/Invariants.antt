use Rattle.std.proofs.Common.{◌≡◌, Ok, take}
use Rattle.fact_judge.specs.Answer.{AreAnswers, setting_by}
use Rattle.reader_spec.specs.World.{world_of}
use Rattle.fact_judge.proofs.planned.are_planned_answers.Given as goal

-- each question so far has its recorded answer
abbrev pub invariant-loop-one : goal.invariant-loop-one
invariant-loop-one l = record {
  known : world_of l.known.sources.now ≡ world_of l.fn.known.sources.now;
  so_far : AreAnswers (world_of l.stored.sources.now) (setting_by (Ok l.plan)) (take l.one-index l.asked);
}
