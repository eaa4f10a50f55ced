use Rattle.build_plan.proofs.keyed.keyed_pages.Goals as goal

pub returns-clause-known : goal.returns-clause-known
returns-clause-known g c = c.pages_since.ensures.known

pub returns-clause-stand : goal.returns-clause-stand
returns-clause-stand g c = c.pages_since.ensures.stand

pub returns-clause-founded : goal.returns-clause-founded
returns-clause-founded g c = c.pages_since.ensures.founded

pub returns-clause-asks : goal.returns-clause-asks
returns-clause-asks g c = c.pages_since.ensures.asks

pub returns-clause-grows : goal.returns-clause-grows
returns-clause-grows g c = c.pages_since.ensures.grows
