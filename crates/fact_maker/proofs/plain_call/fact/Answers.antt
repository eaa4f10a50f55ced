use Rattle.std.specs.Prelude.{IsTrue, is_ok}
use Rattle.std.specs.Arc.{arc_value}
use Rattle.std.specs.Option.{option_copied}
use Rattle.std.proofs.Common.{sym, ap, subst}
use Rattle.facts.specs.declared.fact.PlanFact.{PlanFact}
use Rattle.fact_judge.specs.Agreed.{PlanAnswers}
use Rattle.reader_spec.specs.World.{world_of}
use Rattle.fact_maker.specs.Alone.{GivenFor}
use Rattle.fact_maker.specs.Parts.{is_planned}
use Rattle.fact_maker.proofs.AloneLaws.{given_plan, has_plan}
use Rattle.fact_maker.proofs.plain_call.fact.Goals as goal

pub new-requires : goal.new-requires
new-requires c =
    let part = c.args.key.now.part in
    let given = c.in_default-Some.planned.now in
    let named = ap option_copied c.in_default-Some.is-1 in
    let row = c.in_ok-row-in_default-Some.ensures in
    let is = given_plan part c.args.key.now (arc_value c.args.sources.now) given c.in_default-Some.not-Plan-0
    (subst (GivenFor part c.args.key.now (arc_value c.args.sources.now)) named c.requires.planned) in
    record {
      plan = subst (λ (p : PlanFact). IsTrue (is_ok p.value)) (sym row.plan) (has_plan part given c.in_default-Some.not-Plan-0
          (subst (λ one. IsTrue (is_planned part one)) named c.requires.part));
      sound = row.sound is.sound (arc_value c.args.sources.now) is.agrees;
      agrees = subst (λ (p : PlanFact). PlanAnswers p (world_of (arc_value c.args.sources.now))) (sym row.plan) is.agrees;
    }
