use Rattle.std.specs.Prelude.{IfOk}
use Rattle.std.specs.Arc.{arc_value}
use Rattle.std.proofs.Common.{sym, subst}
use Rattle.std.proofs.lemmas.Result.{IfOk-weaker}
use Rattle.dita_doc.specs.declared.fact.Part.{Part}
use Rattle.dita_doc.specs.declared.fact.Part.TheVariants as parts
use Rattle.facts.specs.Rows.{row_data}
use Rattle.fact_maker.specs.Made.{IsMade}
use Rattle.fact_maker.specs.Ready.{IsPlanOfRow}
use Rattle.fact_maker.specs.declared.ready.ReadyPlan.{ReadyPlan}
use Rattle.fact_maker.proofs.MakeLaws.{plan_made}
use Rattle.fact_maker.proofs.PartReadyLaws.{planned_ready}
use Rattle.fact_maker.proofs.maker.Maker.make.Goals as goal

pub returns-in-Plan-clause-made : goal.returns-in-Plan-clause-made
returns-in-Plan-clause-made c =
    let ready = arc_value c.args.self.now.ready in
    let sources = arc_value ready.sources in
    let row = row_data ready.row in
    subst (λ (part : Part). IfOk c.fact_of_plan.result (IsMade sources row part)) (sym c.in-Plan.is)
    (IfOk-weaker c.fact_of_plan.result (IsPlanOfRow row) (IsMade sources row parts.Plan)
    (λ fact is. plan_made sources row fact (planned_ready ready.ready) is)
    (subst (λ (r : ReadyPlan). IfOk c.fact_of_plan.result (IsPlanOfRow (row_data r.row))) c.deref.ensures
    c.fact_of_plan.ensures))
