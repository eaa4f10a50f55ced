use Rattle.std.proofs.Common.{◌≡◌, take}
use Rattle.desk_work.specs.Cited.{facts_of}
use Rattle.desk_work.specs.Outcome.{total_of}
use Rattle.desk_work.proofs.outcome.total_of.Given as goal

abbrev pub invariant-loop-row : goal.invariant-loop-row
invariant-loop-row l = l.total ≡ total_of (facts_of (take l.row-index l.rows))
