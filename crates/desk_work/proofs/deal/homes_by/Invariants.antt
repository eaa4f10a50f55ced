use Rattle.std.proofs.Common.{◌≡◌, ◌<◌, All, length, vec_len}
use Rattle.desk_work.proofs.deal.homes_by.Given as goal

abbrev pub invariant-loop-weight : goal.invariant-loop-weight
invariant-loop-weight l = record {
  loads : vec_len l.loads ≡ l.workers;
  homes : vec_len l.homes ≡ length l.weights;
  within : All (λ home. home < l.workers) l.homes.items;
}

abbrev pub decreases-loop-weight : goal.decreases-loop-weight
decreases-loop-weight l = goal.left-loop-weight l
