use Rattle.std.proofs.Common.{◌∙◌, ap, sym}
use Rattle.html_spec.specs.Anchors.{lead_of_target, lead_of_document}
use Rattle.xref_links.specs.Adding.{element_of}
use Rattle.xref_links.proofs.LeadLaws.{lead_as, local_founded}
use Rattle.xref_links.proofs.lead.lead_of.Goals as goal

pub returns-in-Local-clause-known : goal.returns-in-Local-clause-known
returns-in-Local-clause-known g c = λ here agrees is.
    let element = element_of c.args.page c.args.standing in
    lead_as here _ _ c.lead_to.result c.args.faults.now c.lead_to.new.faults
    (ap (λ topic. lead_of_document here element c.in-Local.name topic c.as_str-id.result.now) c.as_str-topic.ensures
    ∙ ap (λ id. lead_of_document here element c.in-Local.name c.in-Local.reference.topic id) c.as_str-id.ensures
    ∙ sym (ap (lead_of_target here element) c.in-Local.is))
    (c.lead_to.ensures.known here agrees is)

pub returns-in-Local-clause-stand : goal.returns-in-Local-clause-stand
returns-in-Local-clause-stand g c = c.lead_to.ensures.stand

pub returns-in-Local-clause-asks : goal.returns-in-Local-clause-asks
returns-in-Local-clause-asks g c = c.lead_to.ensures.asks

pub returns-in-Local-clause-grows : goal.returns-in-Local-clause-grows
returns-in-Local-clause-grows g c = c.lead_to.ensures.grows

pub returns-in-Local-clause-founded : goal.returns-in-Local-clause-founded
returns-in-Local-clause-founded g c =
    local_founded c.args.target.now c.in-Local.name c.in-Local.reference _ _ c.in-Local.is
    c.lead_to.ensures.founded
