-- The hands of the workers so far are joined, and their piles are put down.
use Rattle.std.proofs.Common.{◌≡◌, ◌+◌, ◌≤◌, false, length, map}
use Rattle.std.specs.Prelude.{vec_capacity, vec_len}
use Rattle.desk_core.specs.Seen.{snapshot_seen}
use Rattle.desk_lock.specs.Lists.{Each}
use Rattle.desk_lock.specs.Tokens.{IsPassOf, pass_view}
use Rattle.desk_work.specs.Attempts.{IsDone, jobs_seen}
use Rattle.desk_work.specs.Dealing.{all_of}
use Rattle.desk_work.specs.Sites.{basis_of}
use Rattle.desk_work.specs.Teams.{GoesOnWith}
use Rattle.desk_work.proofs.team.join_all.Given as goal

abbrev pub invariant-loop-worker : goal.invariant-loop-worker
invariant-loop-worker g l = record {
  of : IsPassOf l.site.desk.now l.pass;
  parts : (pass_view l.pass).parts ≡ (pass_view l.fn.pass).parts + length l.yielded;
  goes_on : GoesOnWith (basis_of g.P.Parts.plan_agrees g.P.Parts.own_agrees g.P.Parts.is_sound g.M.Makers.language
      (snapshot_seen l.site.snapshot.now)) (pass_view l.fn.pass) (pass_view l.pass)
      (map (λ worker. jobs_seen worker.jobs.items) l.yielded);
  left : l.left.items ≡ map (λ worker. worker.jobs) l.yielded;
  room : vec_len l.fn.team.workers ≤ vec_capacity l.left;
  done : l.failed ≡ false → Each IsDone (all_of (map (λ worker. jobs_seen worker.jobs.items) l.yielded));
}
