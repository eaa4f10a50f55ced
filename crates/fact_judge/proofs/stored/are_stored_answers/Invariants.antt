use Rattle.std.proofs.Common.{◌≡◌, None, take}
use Rattle.fact_judge.specs.Answer.{AreAnswers}
use Rattle.reader_spec.specs.World.{world_of}
use Rattle.fact_judge.proofs.stored.are_stored_answers.Given as goal

-- each question so far has its recorded answer
abbrev pub invariant-loop-one : goal.invariant-loop-one
invariant-loop-one l = record {
  known : world_of l.known.sources.now ≡ world_of l.fn.known.sources.now;
  so_far : AreAnswers (world_of l.stored.sources.now) None (take l.one-index l.asked);
}
