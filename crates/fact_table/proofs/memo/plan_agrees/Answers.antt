use Rattle.std.proofs.Common.{◌≡◌, ◌∙◌, ap, refl, subst}
use Rattle.std.specs.Arc.{arc_value}
use Rattle.facts.specs.Judged.{Tells}
use Rattle.facts.specs.Rows.{plan_in, row_data}
use Rattle.facts.specs.declared.fact.Fact.{Fact}
use Rattle.facts.specs.declared.fact.PlanFact.{PlanFact}
use Rattle.fact_table.proofs.MemoLaws.{grows_by}
use Rattle.fact_table.proofs.memo.plan_agrees.Goals as goal

-- the judgement that is noted is of this row's plan and right
pub returns-clause-memo : goal.returns-clause-memo
returns-clause-memo g c =
    let plan : c.deref-3.result.now ≡ plan_in (row_data c.args.row.now) =
    c.deref-3.ensures ∙ ap (λ (fact : Fact). arc_value fact.plan) c.deref-2.ensures in
    grows_by g.P.Parts.plan_agrees (g.J.Judge.sources c.args.judge.now) c.args.stamp (row_data c.args.row.now) _ _ _
    (record {
      rank = refl;
      of = record { plan = c.plan_of-plan.ensures; at = refl };
      right = subst (λ (plan : PlanFact). Tells c.in_ok-agreed.agreed
          (g.P.Parts.plan_agrees plan (g.J.Judge.sources c.args.judge.now))) plan c.in_ok-agreed.ensures.tells;
    })
    c.note.ensures
