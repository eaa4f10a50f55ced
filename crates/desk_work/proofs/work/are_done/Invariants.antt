-- Each part so far has a row.
use Rattle.std.proofs.Common.{take}
use Rattle.desk_lock.specs.Lists.{Each}
use Rattle.desk_work.specs.Attempts.{IsDone, jobs_seen}
use Rattle.desk_work.proofs.work.are_done.Given as goal

abbrev pub invariant-loop-job : goal.invariant-loop-job
invariant-loop-job l = Each IsDone (jobs_seen (take l.job-index l.jobs))
