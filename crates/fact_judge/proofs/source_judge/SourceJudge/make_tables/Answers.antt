use Rattle.std.proofs.Common.{ap, subst, sym, ◌∙◌}
use Rattle.std.specs.Arc.{arc_value}
use Rattle.plan_reader.specs.declared.tables.PlanTables.{PlanTables}
use Rattle.reader_spec.specs.World.{world_of}
use Rattle.fact_judge.specs.Judging.{AreTablesOf}
use Rattle.fact_judge.proofs.TableLaws.{tables_of_plan}
use Rattle.fact_judge.proofs.source_judge.SourceJudge.make_tables.Goals as goal

pub invariant_of-self-2 : goal.invariant_of-self-2
invariant_of-self-2 c =
    let judge = c.args.self.now in
    let world = world_of (arc_value judge.sources) in
    record {
      tabled = subst (λ (tables : PlanTables). AreTablesOf world judge.map judge.val tables) (sym c.in_ok-new.ensures.ok)
          (tables_of_plan world _ judge.map judge.val c.args.plan.now c.in_ok-tables.tables
          (ap world_of (c.new-reader.ensures.sources ∙ c.new-known.ensures ∙ c.deref.ensures)) c.requires
          c.in_ok-tables.ensures.tables);
      titled = judge.titled;
    }
