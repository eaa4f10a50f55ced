use Rattle.std.proofs.Common.{◌∙◌, ap, arith, length, rules}
use Rattle.fact_table.proofs.ClaimLaws.{HasSerial, names_found, names_none, none_more, none_yet}
use Rattle.fact_table.proofs.claims.names_of.Goals as goal

pub loop-claim-init : goal.loop-claim-init
loop-claim-init c = none_yet c.args.claims.now (HasSerial c.args.serial)

pub returns-then-claim-serial : goal.returns-then-claim-serial
returns-then-claim-serial c =
    names_found c.args.claims.now c.args.serial c.loop-claim.claim-index c.names.result c.claim-item.result
    c.loop-claim-test.true c.claim-item.is (search rules) (c.names.ensures ∙ ap length c.deref.ensures)

pub loop-claim-preserved : goal.loop-claim-preserved
loop-claim-preserved c =
    none_more c.args.claims.now (HasSerial c.args.serial) c.loop-claim.claim-index c.claim-item.result
    c.loop-claim-test.true c.claim-item.is (search rules) c.loop-claim.invariant

pub returns : goal.returns
returns c =
    names_none c.args.claims.now c.args.serial c.loop-claim.claim-index 0 (omega arith) c.loop-claim.invariant
