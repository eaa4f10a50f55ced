-- None of the claims that were looked at is of this key.
use Rattle.fact_table.proofs.ClaimLaws.{IsOfKey, NoneBefore}
use Rattle.fact_table.proofs.claims.runs.Given as goal

abbrev pub invariant-loop-claim : goal.invariant-loop-claim
invariant-loop-claim l = NoneBefore l.claims (IsOfKey l.key) l.claim-index
