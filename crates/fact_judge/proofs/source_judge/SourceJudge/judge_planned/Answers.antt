use Rattle.fact_judge.proofs.TableLaws.{tables_there}
use Rattle.fact_judge.proofs.source_judge.SourceJudge.judge_planned.Goals as goal

pub are_planned_answers-agreed-requires-clause-tables : goal.are_planned_answers-agreed-requires-clause-tables
are_planned_answers-agreed-requires-clause-tables c =
    let judge = c.make_tables.new.self in
    let made = c.make_tables.ensures in
    tables_there _ _ _ _ judge.map _ judge.val judge.tables c.in-Some.tables c.args.plan.now _ made.sources made.map
    made.val c.deref-sources.ensures c.deref.ensures c.in-Some.is judge.tabled c.requires.plan
