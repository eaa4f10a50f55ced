use Rattle.std.proofs.Common.{ap}
use Rattle.std.specs.Prelude.{codes, unwrap_or}
use Rattle.link_groups.proofs.link_nodes.linking_of.Goals as goal

pub returns-in-Some : goal.returns-in-Some
returns-in-Some c = ap (λ found. unwrap_or found (codes "normal")) c.in-Some.ensures

pub returns-in-None : goal.returns-in-None
returns-in-None c = ap (λ found. unwrap_or found (codes "normal")) c.in-None.ensures
