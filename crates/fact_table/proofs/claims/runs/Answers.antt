use Rattle.std.proofs.Common.{◌≡◌, arith}
use Rattle.fact_table.proofs.ClaimLaws.{IsOfKey, none_more, none_yet, runs_not, runs_yes, told_no, told_yes}
use Rattle.fact_table.proofs.claims.runs.Goals as goal

pub loop-claim-init : goal.loop-claim-init
loop-claim-init c = none_yet c.args.claims.now (IsOfKey c.args.key.now)

pub returns-then-is_same : goal.returns-then-is_same
returns-then-is_same c =
    runs_yes c.args.claims.now c.args.key.now c.loop-claim.claim-index c.claim-item.result c.loop-claim-test.true
    c.claim-item.is
    (told_yes c.is_same.result (c.claim-item.result.key ≡ c.args.key.now) c.if-is_same.true c.is_same.ensures)

pub loop-claim-preserved : goal.loop-claim-preserved
loop-claim-preserved c =
    none_more c.args.claims.now (IsOfKey c.args.key.now) c.loop-claim.claim-index c.claim-item.result
    c.loop-claim-test.true c.claim-item.is
    (told_no c.is_same.result (c.claim-item.result.key ≡ c.args.key.now) c.if-is_same.false c.is_same.ensures)
    c.loop-claim.invariant

pub returns : goal.returns
returns c = runs_not c.args.claims.now c.args.key.now c.loop-claim.claim-index (omega arith) c.loop-claim.invariant
