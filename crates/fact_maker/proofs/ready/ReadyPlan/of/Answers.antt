use Rattle.std.specs.Prelude.{IsTrue, is_ok}
use Rattle.std.specs.Arc.{arc_value}
use Rattle.std.proofs.Common.{sym, ap, subst, ◌∙◌}
use Rattle.dita_doc.specs.Desk.{State}
use Rattle.facts.specs.Rows.{RowData}
use Rattle.facts.specs.declared.fact.Fact.{Fact}
use Rattle.plan_nodes.specs.Carried.{CarryValues}
use Rattle.reader_spec.specs.World.{world_of}
use Rattle.fact_maker.proofs.ReadyLaws.{is_ready, known_here, plan_in_fact}
use Rattle.fact_maker.specs.Ready.{AreReady}
use Rattle.fact_maker.proofs.ready.ReadyPlan.of.Goals as goal

pub found_once-requires-clause-tree : goal.found_once-requires-clause-tree
found_once-requires-clause-tree c =
    let fact = arc_value c.args.row.now.fact in
    let plan = c.plan_in-plan.result.now in
    let is = plan_in_fact fact c.deref-2.result.now plan
    (c.deref-2.ensures ∙ ap (λ (f : Fact). arc_value f.plan) c.deref.ensures) c.plan_in-plan.ensures in
    (known_here (arc_value c.args.sources.now) fact plan c.requires.sound c.requires.agrees is).tree

pub found_once-requires-clause-values : goal.found_once-requires-clause-values
found_once-requires-clause-values c =
    let fact = arc_value c.args.row.now.fact in
    let plan = c.plan_in-plan.result.now in
    let is = plan_in_fact fact c.deref-2.result.now plan
    (c.deref-2.ensures ∙ ap (λ (f : Fact). arc_value f.plan) c.deref.ensures) c.plan_in-plan.ensures in
    subst (λ (state : State). CarryValues (world_of state) plan.nodes) (sym c.deref-3.ensures)
    (known_here (arc_value c.args.sources.now) fact plan c.requires.sound c.requires.agrees is).values

pub found_once-requires-clause-scopes : goal.found_once-requires-clause-scopes
found_once-requires-clause-scopes c =
    let fact = arc_value c.args.row.now.fact in
    let plan = c.plan_in-plan.result.now in
    let is = plan_in_fact fact c.deref-2.result.now plan
    (c.deref-2.ensures ∙ ap (λ (f : Fact). arc_value f.plan) c.deref.ensures) c.plan_in-plan.ensures in
    (known_here (arc_value c.args.sources.now) fact plan c.requires.sound c.requires.agrees is).scopes

pub invariant_of-result : goal.invariant_of-result
invariant_of-result c =
    let sources = arc_value c.args.sources.now in
    let fact = arc_value c.args.row.now.fact in
    let plan = c.plan_in-plan.result.now in
    let is = plan_in_fact fact c.deref-2.result.now plan
    (c.deref-2.ensures ∙ ap (λ (f : Fact). arc_value f.plan) c.deref.ensures) c.plan_in-plan.ensures in
    let same = ap (λ (row : RowData). row.fact) c.in_ok-clone.ensures.cases in
    record {
      is_plan = subst (λ (f : Fact). IsTrue (is_ok (arc_value f.plan).value)) (sym same) c.requires.plan;
      ready = is_ready sources (arc_value c.in_ok-try_clone.field-0) fact (arc_value c.in_ok-clone.field-0.fact) plan
          c.in_ok-tables.tables (arc_value c.in_ok-new.field-0) c.in_ok-tables.links c.in_ok-try_clone.ensures same
          c.in_ok-new.ensures.ok c.requires.sound c.requires.agrees is
          (subst (λ (state : State). AreReady state plan c.in_ok-tables.tables c.in_ok-tables.links) c.deref-3.ensures
          c.in_ok-tables.ensures);
    }
