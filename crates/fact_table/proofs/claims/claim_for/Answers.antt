use Rattle.std.proofs.Common.{arith}
use Rattle.fact_table.specs.Claims.{IsFor}
use Rattle.fact_table.proofs.ClaimLaws.{none_more, none_runs, none_yet, serial_found, told_no, told_yes}
use Rattle.fact_table.proofs.claims.claim_for.Goals as goal

pub loop-claim-init : goal.loop-claim-init
loop-claim-init c = none_yet c.args.claims.now (IsFor c.args.key.now c.args.stamp)

pub returns-then-is_for-clause-found : goal.returns-then-is_for-clause-found
returns-then-is_for-clause-found c =
    serial_found c.args.claims.now c.args.key.now c.args.stamp c.loop-claim.claim-index c.claim-item.result
    c.loop-claim-test.true c.claim-item.is
    (told_yes c.is_for.result (IsFor c.args.key.now c.args.stamp c.claim-item.result) c.if-is_for.true c.is_for.ensures)

pub loop-claim-preserved : goal.loop-claim-preserved
loop-claim-preserved c =
    none_more c.args.claims.now (IsFor c.args.key.now c.args.stamp) c.loop-claim.claim-index c.claim-item.result
    c.loop-claim-test.true c.claim-item.is
    (told_no c.is_for.result (IsFor c.args.key.now c.args.stamp c.claim-item.result) c.if-is_for.false c.is_for.ensures)
    c.loop-claim.invariant

pub returns-clause-absent : goal.returns-clause-absent
returns-clause-absent c =
    none_runs c.args.claims.now c.args.key.now c.args.stamp c.loop-claim.claim-index (omega arith) c.loop-claim.invariant
