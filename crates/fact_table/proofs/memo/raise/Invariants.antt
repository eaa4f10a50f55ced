-- Each judgement is one that was there, if it is of this plan maybe with the new rank.
use Rattle.fact_table.specs.Noted.{AreRaised}
use Rattle.fact_table.proofs.memo.raise.Given as goal

abbrev pub invariant-loop-noted : goal.invariant-loop-noted
invariant-loop-noted l = AreRaised l.plan l.rank l.fn.memo l.memo
