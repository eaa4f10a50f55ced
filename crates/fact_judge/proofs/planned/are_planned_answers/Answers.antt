use Rattle.std.proofs.Common.{Ok, ◌∙◌}
use Rattle.fact_judge.specs.Answer.{setting_by}
use Rattle.fact_judge.proofs.EachLaws.{no_to_all, was_of, yes_to_more}
use Rattle.fact_judge.proofs.planned.are_planned_answers.Goals as goal

pub is_planned_answer-requires-clause-was : goal.is_planned_answer-requires-clause-was
is_planned_answer-requires-clause-was c =
    was_of (setting_by (Ok c.args.plan.now)) _ _ c.args.asked.now c.loop-one.one-index _ c.loop-one-test.true
    c.one-item.is c.requires.was

pub returns-then-not-branch-clause-tells : goal.returns-then-not-branch-clause-tells
returns-then-not-branch-clause-tells c =
    no_to_all _ (setting_by (Ok c.args.plan.now)) c.args.asked.now c.loop-one.one-index _ c.loop-one-test.true
    c.one-item.is _ c.if-not-branch.true c.in_ok-is_planned_answer.ensures.tells

pub loop-one-preserved : goal.loop-one-preserved
loop-one-preserved c = record {
  known = c.is_planned_answer.ensures.known ∙ c.loop-one.invariant.known;
  so_far = yes_to_more _ (setting_by (Ok c.args.plan.now)) c.args.asked.now c.loop-one.one-index _
      c.loop-one-test.true c.one-item.is _ c.if-not-branch.false c.in_ok-is_planned_answer.ensures.tells
      c.loop-one.invariant.so_far;
}
