use Rattle.std.proofs.Common.{◌++◌, ◌∙◌, ap}
use Rattle.std.proofs.lemmas.List.{take_all}
use Rattle.desk_work.specs.Cited.{facts_of}
use Rattle.desk_work.specs.Outcome.{faults_of}
use Rattle.desk_work.proofs.OutcomeLaws.{faults_in, reported}
use Rattle.desk_work.proofs.outcome.faults_of.Goals as goal

pub returns : goal.returns
returns c = reported c.loop-row.faults (faults_of c.args.plan.now (facts_of c.args.rows.now)) c.report.result
    (c.loop-row.invariant ∙ ap (λ rows. c.args.plan.now.faults ++ faults_in (facts_of rows))
    (take_all c.loop-row.row-index c.args.rows.now c.loop-row-test.false))
    c.report.ensures
