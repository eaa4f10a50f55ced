use Rattle.std.specs.Prelude.{IfOk}
use Rattle.std.specs.Arc.{arc_value}
use Rattle.std.proofs.Common.{sym, subst}
use Rattle.std.proofs.lemmas.Result.{IfOk-weaker}
use Rattle.facts.specs.Rows.{row_data}
use Rattle.fact_maker.specs.Made.{IsMade, IsRightOf}
use Rattle.fact_maker.specs.Ready.{FindingsGoOn, IsPartOfRow}
use Rattle.fact_maker.specs.declared.ready.ReadyPlan.{ReadyPlan}
use Rattle.fact_maker.proofs.MakeLaws.{html_made}
use Rattle.fact_maker.proofs.PartReadyLaws.{planned_ready}
use Rattle.fact_maker.proofs.maker.Maker.html_fact.Goals as goal

pub returns-clause-made : goal.returns-clause-made
returns-clause-made c =
    let ready = arc_value c.args.self.now.ready in
    let sources = arc_value ready.sources in
    let row = row_data ready.row in
    let made = c.in_ok-made.made in
    let right = subst (λ (r : ReadyPlan). IsRightOf (arc_value r.sources) (arc_value r.row.fact) c.args.part made.html
    made.asked) c.deref.ensures c.in_ok-made.ensures.right in
    IfOk-weaker c.fact_of_html.result (IsPartOfRow row c.args.part made.html made.asked) (IsMade sources row c.args.part)
    (λ fact is. html_made sources row c.args.part made.html made.asked fact (planned_ready ready.ready) right is)
    (subst (λ (r : ReadyPlan). IfOk c.fact_of_html.result (IsPartOfRow (row_data r.row) c.args.part made.html made.asked))
    c.deref-2.ensures c.fact_of_html.ensures)

pub invariant_of-self : goal.invariant_of-self
invariant_of-self c =
    let ready = arc_value c.args.self.now.ready in record {
      go_on = subst (FindingsGoOn (arc_value ready.sources) (arc_value ready.row.fact))
          (sym c.replace-found.ensures.after) (c.new.ensures _ _);
    }
