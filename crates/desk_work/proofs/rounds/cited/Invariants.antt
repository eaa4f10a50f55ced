-- The rows so far and those of the parts that are left are the rows of all parts, and each part that is left is done.
use Rattle.std.proofs.Common.{◌≡◌, ◌+◌, ◌≤◌, ◌++◌, Some, map, vec_capacity, vec_len}
use Rattle.std.specs.Vec.Iter.{into_iter_items, into_iter_len}
use Rattle.facts.specs.Rows.{RowData}
use Rattle.desk_lock.specs.Lists.{Each}
use Rattle.desk_work.specs.Attempts.{IsDone, jobs_seen}
use Rattle.desk_work.specs.Cited.{rows_seen}
use Rattle.desk_work.specs.Work.{Job}
use Rattle.desk_work.proofs.rounds.cited.Given as goal

abbrev pub invariant-loop-job : goal.invariant-loop-job
invariant-loop-job l = record {
  rows : map (λ (row : RowData). Some row) (rows_seen l.rows.items)
      ++ map (λ (job : Job). job.row) (jobs_seen (into_iter_items l.job-iterator))
      ≡ map (λ (job : Job). job.row) (jobs_seen l.fn.jobs.items);
  done : Each IsDone (jobs_seen (into_iter_items l.job-iterator));
  room : vec_len l.rows + into_iter_len l.job-iterator ≤ vec_capacity l.rows;
}
