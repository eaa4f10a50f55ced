use Rattle.std.proofs.Common.{Ok, ap, sym, ◌∙◌}
use Rattle.std.specs.Arc.{arc_value}
use Rattle.facts.specs.declared.fact.PlanFact.{PlanFact}
use Rattle.fact_judge.proofs.OwnLaws.{setting_of, tells_own, tells_with, was_own, was_without}
use Rattle.fact_judge.proofs.source_judge.SourceJudgeJudgeMapParts.judge_own.Goals as goal

-- no question is about the plan
pub judge_stored-requires : goal.judge_stored-requires
judge_stored-requires c =
    was_without (setting_of c.in-Ok.plan) c.as_slice-asked.result.now c.args.since (arc_value c.args.self.now.sources)
    (sym c.are_about_plan.ensures ∙ c.if-are_about_plan.false)
    (was_own c.args.fact.now (Ok c.in-Ok.plan) c.as_slice-asked.result.now c.args.since
    (arc_value c.args.self.now.sources) (ap (λ (plan : PlanFact). plan.value) (sym c.deref.ensures) ∙ c.in-Ok.is)
    c.as_slice-asked.ensures c.requires.agreed)

pub returns-else-are_about_plan-clause-tells : goal.returns-else-are_about_plan-clause-tells
returns-else-are_about_plan-clause-tells c =
    tells_own c.args.fact.now (Ok c.in-Ok.plan) c.as_slice-asked.result.now (arc_value c.args.self.now.sources)
    c.judge_stored.result (ap (λ (plan : PlanFact). plan.value) (sym c.deref.ensures) ∙ c.in-Ok.is)
    c.as_slice-asked.ensures
    (tells_with (setting_of c.in-Ok.plan) c.as_slice-asked.result.now (arc_value c.args.self.now.sources)
    c.judge_stored.result (sym c.are_about_plan.ensures ∙ c.if-are_about_plan.false) c.judge_stored.ensures.tells)
