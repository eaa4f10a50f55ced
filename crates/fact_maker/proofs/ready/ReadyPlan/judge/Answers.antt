use Rattle.std.specs.Arc.{arc_value}
use Rattle.std.proofs.Common.{ap, ◌∙◌}
use Rattle.facts.specs.declared.fact.Fact.{Fact}
use Rattle.fact_maker.proofs.PartReadyLaws.{judged_at}
use Rattle.fact_maker.proofs.ready.ReadyPlan.judge.Goals as goal

pub with_tables-requires : goal.with_tables-requires
with_tables-requires c = judged_at c.args.self.now.ready (arc_value c.in_ok-judge.judge.sources) c.in_ok-judge.judge.map
    c.in_ok-judge.judge.val (arc_value c.in_ok-try_clone.field-0) c.in_ok-judge.ensures.sources
    (c.in_ok-judge.ensures.map ∙ ap (λ (f : Fact). f.key.map) c.deref.ensures)
    (c.in_ok-judge.ensures.val ∙ c.as_ref.ensures.value ∙ ap (λ (f : Fact). f.key.val) c.deref.ensures)
    c.in_ok-try_clone.ensures
