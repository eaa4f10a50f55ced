use Rattle.std.specs.Arc.{arc_value}
use Rattle.std.proofs.Common.{◌∙◌, Some, ap, sym}
use Rattle.map_spec.specs.Pages.{page_for}
use Rattle.readers.proofs.GrowthLaws.{told_answer}
use Rattle.xref_links.specs.Adding.{element_of}
use Rattle.xref_links.proofs.LeadLaws.{lead_as, lead_known}
use Rattle.xref_links.proofs.lead.lead_to.Goals as goal

pub returns-clause-known : goal.returns-clause-known
returns-clause-known g c = λ here agrees is.
    let page = c.args.page in
    let element = element_of page c.args.standing in
    let stand = g.A.Reader.stand c.args.asker.now in
    let known = told_answer here.world _ _ _ c.in_ok-number.ensures.told agrees ∙ c.in-Some.is in
    lead_as here _ _ c.lead_to_page.result c.args.faults.now c.args.faults.now
    (sym (lead_known here stand page element c.args.name.now c.args.topic.now c.args.id.now is (Some c.in-Some.number)
    known))
    (c.lead_to_page.ensures here stand element c.args.faults.now is
    (ap (λ pages. page_for pages c.args.name.now (arc_value page.context.now).page) (sym is.pages) ∙ known))

pub returns-in_err-number-clause-stand : goal.returns-in_err-number-clause-stand
returns-in_err-number-clause-stand g c = c.page_of.ensures.stand

pub returns-in_err-number-clause-founded : goal.returns-in_err-number-clause-founded
returns-in_err-number-clause-founded g c = c.page_of.ensures.founded

pub returns-in_err-number-clause-asks : goal.returns-in_err-number-clause-asks
returns-in_err-number-clause-asks g c = c.page_of.ensures.asks

pub returns-in_err-number-clause-grows : goal.returns-in_err-number-clause-grows
returns-in_err-number-clause-grows g c = c.page_of.ensures.grows

pub returns-clause-stand : goal.returns-clause-stand
returns-clause-stand g c = c.page_of.ensures.stand

pub returns-clause-founded : goal.returns-clause-founded
returns-clause-founded g c = c.page_of.ensures.founded

pub returns-clause-asks : goal.returns-clause-asks
returns-clause-asks g c = c.page_of.ensures.asks

pub returns-clause-grows : goal.returns-clause-grows
returns-clause-grows g c = c.page_of.ensures.grows

pub returns-in_default-clause-stand : goal.returns-in_default-clause-stand
returns-in_default-clause-stand g c = c.page_of.ensures.stand

pub returns-in_default-clause-founded : goal.returns-in_default-clause-founded
returns-in_default-clause-founded g c = c.page_of.ensures.founded

pub returns-in_default-clause-asks : goal.returns-in_default-clause-asks
returns-in_default-clause-asks g c = c.page_of.ensures.asks

pub returns-in_default-clause-grows : goal.returns-in_default-clause-grows
returns-in_default-clause-grows g c = c.page_of.ensures.grows

pub returns-in_err-put_fault-clause-stand : goal.returns-in_err-put_fault-clause-stand
returns-in_err-put_fault-clause-stand g c = c.page_of.ensures.stand

pub returns-in_err-put_fault-clause-founded : goal.returns-in_err-put_fault-clause-founded
returns-in_err-put_fault-clause-founded g c = c.page_of.ensures.founded

pub returns-in_err-put_fault-clause-asks : goal.returns-in_err-put_fault-clause-asks
returns-in_err-put_fault-clause-asks g c = c.page_of.ensures.asks

pub returns-in_err-put_fault-clause-grows : goal.returns-in_err-put_fault-clause-grows
returns-in_err-put_fault-clause-grows g c = c.page_of.ensures.grows
