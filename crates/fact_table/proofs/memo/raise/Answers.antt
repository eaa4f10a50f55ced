use Rattle.std.proofs.Common.{arith, false}
use Rattle.fact_table.specs.declared.memo.Noted.{Noted}
use Rattle.fact_table.proofs.MemoLaws.{raises_at, raises_still}
use Rattle.fact_table.proofs.memo.raise.Goals.{then-noted-plan, else-noted-plan}
use Rattle.fact_table.proofs.memo.raise.Goals as goal

pub loop-noted-preserved : goal.loop-noted-preserved
loop-noted-preserved c =
    let other : Noted = record { judged = record { plan = 0; stamp = 0; agreed = false }; rank = 0 } in
    elim c.if-noted-plan.branch [
      | then-noted-plan w ↦ raises_at c.args.plan c.args.rank c.args.memo.now c.loop-noted.memo c.if-noted-plan.memo
          c.loop-noted.noted-index other (omega (arith, c.loop-noted-test.true, c.loop-noted.auto.memo))
          w.if-noted-plan.true w.memo-is c.loop-noted.invariant
      | else-noted-plan w ↦ raises_still c.args.plan c.args.rank c.args.memo.now c.loop-noted.memo c.if-noted-plan.memo
          c.loop-noted.noted-index other (omega (arith, c.loop-noted-test.true, c.loop-noted.auto.memo)) w.memo-is
          c.loop-noted.invariant
    ]
