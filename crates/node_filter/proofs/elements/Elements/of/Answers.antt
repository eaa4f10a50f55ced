use Rattle.plan_nodes.proofs.GivenLaws.{told_later}
use Rattle.readers.proofs.GrowthLaws.{agrees_before}
use Rattle.node_filter.proofs.elements.Elements.of.Goals as goal

pub returns-clause-known : goal.returns-clause-known
returns-clause-known g c = λ world agrees.
    c.in_ok-homes.ensures.known world (agrees_before world _ _ c.in_ok-declared.ensures.grows agrees)

pub returns-clause-given : goal.returns-clause-given
returns-clause-given g c = told_later _ _ _ c.in_ok-declared.ensures.grows c.in_ok-homes.ensures.given
