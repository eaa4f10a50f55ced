use Rattle.std.proofs.Common.{subst}
use Rattle.readers.proofs.GrowthLaws.{agrees_before, grows_trans}
use Rattle.whole_calls.specs.Single.{HasTables, IsPlanFound, MayBeAsked}
use Rattle.whole_calls.proofs.SingleLaws.{part_made}
use Rattle.whole_calls.proofs.single_parts.single.Goals as goal
use Rattle.readers.proofs.FoundedLaws.{stays_by, stays_when}

pub over_titles-requires-clause-tables : goal.over_titles-requires-clause-tables
over_titles-requires-clause-tables g c = subst (HasTables _) c.in-Some.is c.in_ok-plan.ensures.tables

pub over_titles-requires-clause-kept : goal.over_titles-requires-clause-kept
over_titles-requires-clause-kept g c = c.new-docs.ensures _ _

pub returns-clause-known : goal.returns-clause-known
returns-clause-known g c = λ world agrees.
    let at_plan = agrees_before world _ _ c.over_titles.ensures.grows agrees in
    part_made _ world _ c.over_titles.result (c.in_ok-plan.ensures.tells world at_plan)
    (λ plan is. subst (IsPlanFound plan) c.in-Some.is (c.in_ok-plan.ensures.known world plan at_plan is))
    (c.over_titles.ensures.known world agrees)

pub returns-in_default-clause-known : goal.returns-in_default-clause-known
returns-in_default-clause-known g c = λ world agrees. record {
  same = c.in_ok-plan.ensures.tells world agrees;
  made = λ plan is.
      absurd (subst (IsPlanFound plan) c.in_default.is (c.in_ok-plan.ensures.known world plan agrees is));
}

pub returns-clause-founded : goal.returns-clause-founded
returns-clause-founded g c = stays_when _ _ _
    (grows_trans _ _ _ c.find_plan.ensures.grows c.over_titles.ensures.grows) (λ roots allowed founded.
    stays_by _ _ _ c.over_titles.ensures.founded roots (subst (MayBeAsked _ _ _ _) c.in-Some.is
    c.in_ok-plan.ensures.given roots allowed founded)
    (stays_by _ _ _ c.find_plan.ensures.founded roots allowed founded))

pub returns-clause-grows : goal.returns-clause-grows
returns-clause-grows g c = grows_trans _ _ _ c.find_plan.ensures.grows c.over_titles.ensures.grows
