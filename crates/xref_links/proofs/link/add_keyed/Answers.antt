use Rattle.std.proofs.Common.{◌∙◌, ap, refl, true}
use Rattle.dita_doc.proofs.Lists.{on_ok}
use Rattle.html_spec.specs.Anchors.{linked_by_key}
use Rattle.xref_links.specs.Adding.{element_of, inside_of, label_with}
use Rattle.xref_links.proofs.LinkLaws.{given_lead, holds_keyed, linked_more}
use Rattle.xref_links.proofs.link.add_keyed.Goals as goal

pub returns-clause-known : goal.returns-clause-known
returns-clause-known g c = λ here answer agrees is typed defined given.
    let page = c.args.page in
    let standing = c.args.standing in
    on_ok _ _ c.add_linked.result
    (linked_more here page standing (linked_by_key here (element_of page standing) answer) c.args.types.is_link
    c.args.made.now
    (record {
      anchors = c.args.made.now.anchors;
      links = c.args.made.now.links;
      faults = c.lead_by_key.new.faults;
    }) c.add_linked.new.made c.in_ok-lead.lead true c.in_ok-label.label typed
    (holds_keyed here page standing answer defined)
    (c.in_ok-label.ensures page
    ∙ ap (label_with c.args.types.is_link (inside_of page standing)) given.label)
    refl refl refl
    (given_lead here page standing answer c.args.keyed.now c.in_ok-lead.lead c.args.made.now.faults
    c.lead_by_key.new.faults given (c.in_ok-lead.ensures.known here agrees is)))
    c.add_linked.ensures

pub returns-in_err-lead-clause-stand : goal.returns-in_err-lead-clause-stand
returns-in_err-lead-clause-stand g c = c.lead_by_key.ensures.stand

pub returns-in_err-lead-clause-founded : goal.returns-in_err-lead-clause-founded
returns-in_err-lead-clause-founded g c = c.lead_by_key.ensures.founded

pub returns-in_err-lead-clause-asks : goal.returns-in_err-lead-clause-asks
returns-in_err-lead-clause-asks g c = c.lead_by_key.ensures.asks

pub returns-in_err-lead-clause-grows : goal.returns-in_err-lead-clause-grows
returns-in_err-lead-clause-grows g c = c.lead_by_key.ensures.grows

pub returns-in_err-label-clause-stand : goal.returns-in_err-label-clause-stand
returns-in_err-label-clause-stand g c = c.lead_by_key.ensures.stand

pub returns-in_err-label-clause-founded : goal.returns-in_err-label-clause-founded
returns-in_err-label-clause-founded g c = c.lead_by_key.ensures.founded

pub returns-in_err-label-clause-asks : goal.returns-in_err-label-clause-asks
returns-in_err-label-clause-asks g c = c.lead_by_key.ensures.asks

pub returns-in_err-label-clause-grows : goal.returns-in_err-label-clause-grows
returns-in_err-label-clause-grows g c = c.lead_by_key.ensures.grows

pub returns-clause-stand : goal.returns-clause-stand
returns-clause-stand g c = c.lead_by_key.ensures.stand

pub returns-clause-founded : goal.returns-clause-founded
returns-clause-founded g c = c.lead_by_key.ensures.founded

pub returns-clause-asks : goal.returns-clause-asks
returns-clause-asks g c = c.lead_by_key.ensures.asks

pub returns-clause-grows : goal.returns-clause-grows
returns-clause-grows g c = c.lead_by_key.ensures.grows
