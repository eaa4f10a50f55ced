use Rattle.std.proofs.Common.{◌∙◌}
use Rattle.readers.specs.Founded.{homes}
use Rattle.readers.proofs.GrowthLaws.{grows_trans}
use Rattle.plan_reader.proofs.TableLaws.{asks_both, asks_first, stays_both, stays_first, tables_of}
use Rattle.plan_reader.proofs.tables.PlanTables.of.Goals as goal

pub returns-in_err-homes-clause-founded : goal.returns-in_err-homes-clause-founded
returns-in_err-homes-clause-founded g c = stays_first (homes c.args.plan.now.nodes) c.args.plan.now.documents _ _
    c.keyed.ensures.founded

pub returns-in_err-homes-clause-asks : goal.returns-in_err-homes-clause-asks
returns-in_err-homes-clause-asks g c = asks_first (homes c.args.plan.now.nodes) c.args.plan.now.documents _ _
    c.keyed.ensures.asks

pub returns-clause-tables : goal.returns-clause-tables
returns-clause-tables g c = λ tree values scopes.
    tables_of _ _ _ _ _ _ _ _ _ c.in_ok-homes.ensures.stand c.as_slice.ensures
    (c.in_ok-homes.ensures.keyed tree values scopes) c.with_pushes.ensures.tables

pub returns-clause-stand : goal.returns-clause-stand
returns-clause-stand g c = c.with_pushes.ensures.stand ∙ c.in_ok-homes.ensures.stand

pub returns-clause-founded : goal.returns-clause-founded
returns-clause-founded g c = stays_both (homes c.args.plan.now.nodes) c.args.plan.now.documents _ _ _ _
    c.as_slice.ensures c.in_ok-homes.ensures.grows c.in_ok-homes.ensures.founded c.with_pushes.ensures.founded

pub returns-clause-asks : goal.returns-clause-asks
returns-clause-asks g c = asks_both (homes c.args.plan.now.nodes) c.args.plan.now.documents _ _ _ _
    c.as_slice.ensures c.in_ok-homes.ensures.grows c.in_ok-homes.ensures.asks c.with_pushes.ensures.asks

pub returns-clause-grows : goal.returns-clause-grows
returns-clause-grows g c = grows_trans _ _ _ c.in_ok-homes.ensures.grows c.with_pushes.ensures.grows
