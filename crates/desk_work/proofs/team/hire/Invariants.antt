-- For each pile so far a worker has it, with a hand of the pass.
use Rattle.std.proofs.Common.{◌≡◌, ◌+◌, ◌≤◌, length, map}
use Rattle.std.specs.Prelude.{All, vec_capacity, vec_len}
use Rattle.desk_lock.specs.Knows.{parted}
use Rattle.desk_lock.specs.Tokens.{IsPassOf, pass_view}
use Rattle.desk_work.specs.Teams.{IsHired}
use Rattle.desk_work.proofs.team.hire.Given as goal

abbrev pub invariant-loop-jobs : goal.invariant-loop-jobs
invariant-loop-jobs g l = record {
  of : IsPassOf l.desk l.pass;
  parted : pass_view l.pass ≡ parted (pass_view l.fn.pass) (length l.yielded);
  hands : All (λ worker. IsHired l.desk (pass_view l.fn.pass) worker.hand) l.workers.items;
  piles : map (λ worker. worker.jobs) l.workers.items ≡ l.yielded;
  room : vec_len l.fn.piles ≤ vec_capacity l.workers;
  number : l.number ≡ l.fn.first + length l.yielded;
}
