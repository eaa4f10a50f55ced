use Rattle.std.proofs.Common.{◌≡◌, ◌++◌, take}
use Rattle.desk_work.specs.Cited.{facts_of}
use Rattle.desk_work.proofs.OutcomeLaws.{faults_in}
use Rattle.desk_work.proofs.outcome.faults_of.Given as goal

abbrev pub invariant-loop-row : goal.invariant-loop-row
invariant-loop-row l = l.faults ≡ l.fn.plan.faults ++ faults_in (facts_of (take l.row-index l.rows))
