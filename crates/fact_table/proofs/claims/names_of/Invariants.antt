-- None of the claims that were looked at has this serial.
use Rattle.fact_table.proofs.ClaimLaws.{HasSerial, NoneBefore}
use Rattle.fact_table.proofs.claims.names_of.Given as goal

abbrev pub invariant-loop-claim : goal.invariant-loop-claim
invariant-loop-claim l = NoneBefore l.claims (HasSerial l.serial) l.claim-index
