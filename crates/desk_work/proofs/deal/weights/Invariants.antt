use Rattle.std.proofs.Common.{◌≡◌, ◌+◌, ◌≤◌, length, vec_capacity, vec_len}
use Rattle.desk_work.proofs.deal.weights.Given as goal

abbrev pub invariant-loop-page : goal.invariant-loop-page
invariant-loop-page l = (vec_len l.weights ≡ l.page-index) × (length l.plan.pages + 1 ≤ vec_capacity l.weights)
