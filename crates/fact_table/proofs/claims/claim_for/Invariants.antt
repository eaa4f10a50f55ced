-- None of the claims that were looked at is for this key and this stamp.
use Rattle.fact_table.specs.Claims.{IsFor}
use Rattle.fact_table.proofs.ClaimLaws.{NoneBefore}
use Rattle.fact_table.proofs.claims.claim_for.Given as goal

abbrev pub invariant-loop-claim : goal.invariant-loop-claim
invariant-loop-claim l = NoneBefore l.claims (IsFor l.key l.stamp) l.claim-index
