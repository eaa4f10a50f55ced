use Rattle.std.proofs.Common.{ap}
use Rattle.std.specs.Option.{option_copied}
use Rattle.xref_links.specs.Adding.{element_of}
use Rattle.xref_links.proofs.LeadLaws.{by_id, by_no_id, lead_as, local_founded}
use Rattle.xref_links.proofs.link.lead_by_key.Goals as goal

pub returns-in_default-clause-known : goal.returns-in_default-clause-known
returns-in_default-clause-known g c = λ here agrees is.
    lead_as here _ _ c.lead_of.result c.args.faults.now c.lead_of.new.faults
    (by_no_id here (element_of c.args.page c.args.standing) (option_copied c.args.id) c.args.target.now
    (ap option_copied c.in_default.is))
    (c.lead_of.ensures.known here agrees is)

pub returns-in-Local-clause-known : goal.returns-in-Local-clause-known
returns-in-Local-clause-known g c = λ here agrees is.
    lead_as here _ _ c.lead_to_id.result c.args.faults.now c.lead_to_id.new.faults
    (by_id here (element_of c.args.page c.args.standing) (option_copied c.args.id) c.in-Some.id.now c.in-Local.name
    c.in-Local.reference c.args.target.now (ap option_copied c.in-Some.is) c.in-Local.is)
    (c.lead_to_id.ensures.known here agrees is)

pub returns-in-Local-clause-founded : goal.returns-in-Local-clause-founded
returns-in-Local-clause-founded g c =
    local_founded c.args.target.now c.in-Local.name c.in-Local.reference _ _ c.in-Local.is c.lead_to_id.ensures.founded

pub returns-in-Local-clause-stand : goal.returns-in-Local-clause-stand
returns-in-Local-clause-stand g c = c.lead_to_id.ensures.stand

pub returns-in-Local-clause-asks : goal.returns-in-Local-clause-asks
returns-in-Local-clause-asks g c = c.lead_to_id.ensures.asks

pub returns-in-Local-clause-grows : goal.returns-in-Local-clause-grows
returns-in-Local-clause-grows g c = c.lead_to_id.ensures.grows

pub returns-in_default-clause-stand : goal.returns-in_default-clause-stand
returns-in_default-clause-stand g c = c.lead_of.ensures.stand

pub returns-in_default-clause-founded : goal.returns-in_default-clause-founded
returns-in_default-clause-founded g c = c.lead_of.ensures.founded

pub returns-in_default-clause-asks : goal.returns-in_default-clause-asks
returns-in_default-clause-asks g c = c.lead_of.ensures.asks

pub returns-in_default-clause-grows : goal.returns-in_default-clause-grows
returns-in_default-clause-grows g c = c.lead_of.ensures.grows
