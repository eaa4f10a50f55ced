use Rattle.std.proofs.Common.{refl}
use Rattle.readers.proofs.OnlyLaws.{only_held, only_same}
use Rattle.link_groups.proofs.AskedLaws.{node_asked}
use Rattle.family_links.proofs.groups.put_child.Goals as goal

pub returns-in_err-found-clause-stand : goal.returns-in_err-found-clause-stand
returns-in_err-found-clause-stand g c = c.find.ensures.stand

pub returns-in_err-found-clause-founded : goal.returns-in_err-found-clause-founded
returns-in_err-found-clause-founded g c = c.find.ensures.founded

pub returns-in_err-found-clause-asks : goal.returns-in_err-found-clause-asks
returns-in_err-found-clause-asks g c = c.find.ensures.asks

pub returns-in_err-found-clause-grows : goal.returns-in_err-found-clause-grows
returns-in_err-found-clause-grows g c = c.find.ensures.grows

pub returns-clause-stand : goal.returns-clause-stand
returns-clause-stand g c = c.find.ensures.stand

pub returns-clause-founded : goal.returns-clause-founded
returns-clause-founded g c = c.find.ensures.founded

pub returns-clause-asks : goal.returns-clause-asks
returns-clause-asks g c = c.find.ensures.asks

pub returns-clause-grows : goal.returns-clause-grows
returns-clause-grows g c = c.find.ensures.grows

pub returns-in_default-clause-only : goal.returns-in_default-clause-only
returns-in_default-clause-only g c = only_same _ _ _ refl

pub returns-clause-only : goal.returns-clause-only
returns-clause-only g c =
    only_held c.put_found.result _ _ _ (node_asked c.args.plan.now c.args.at _ _ _ c.in_ok-found.ensures.asked)
