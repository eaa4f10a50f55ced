use Rattle.std.proofs.Common.{◌∙◌, refl}
use Rattle.std.specs.Prelude.{[]}
use Rattle.dita_doc.proofs.Lists.{on_ok}
use Rattle.html_spec.specs.Anchors.{linked_by_read}
use Rattle.readers.proofs.GrowthLaws.{agrees_before, grows_trans}
use Rattle.xref_links.specs.Adding.{element_of, read_as}
use Rattle.xref_links.proofs.HereLaws.{here_kept}
use Rattle.xref_links.proofs.LinkLaws.{holds_written, linked_more}
use Rattle.readers.specs.Documents.{nothing}
use Rattle.readers.proofs.DocumentLaws.{asks_after}
use Rattle.readers.proofs.FoundedLaws.{stays_after}
use Rattle.xref_links.proofs.link.add_read.Goals as goal

pub returns-clause-known : goal.returns-clause-known
returns-clause-known g c = λ here agrees is typed none.
    let page = c.args.page in
    let standing = c.args.standing in
    let element = element_of page standing in
    on_ok _ _ c.add_linked.result
    (linked_more here page standing (linked_by_read here element (read_as c.args.target.now)) c.args.types.is_link
    c.args.made.now
    (record {
      anchors = c.args.made.now.anchors;
      links = c.args.made.now.links;
      faults = c.lead_of.new.faults;
    }) c.add_linked.new.made c.in_ok-lead.lead c.is_reference-holds.result c.in_ok-label.label typed
    (holds_written here page standing c.is_reference-holds.result (c.is_reference-holds.ensures []) none)
    (c.in_ok-label.ensures.known here page (agrees_before here.world _ _ c.in_ok-lead.ensures.grows agrees))
    refl refl refl
    (c.in_ok-lead.ensures.known here agrees (here_kept _ _ page here c.in_ok-label.ensures.stand is)))
    c.add_linked.ensures

pub returns-in_err-label-clause-stand : goal.returns-in_err-label-clause-stand
returns-in_err-label-clause-stand g c = c.label_of.ensures.stand

pub returns-in_err-label-clause-founded : goal.returns-in_err-label-clause-founded
returns-in_err-label-clause-founded g c = c.label_of.ensures.founded

pub returns-in_err-label-clause-asks : goal.returns-in_err-label-clause-asks
returns-in_err-label-clause-asks g c = c.label_of.ensures.asks

pub returns-in_err-label-clause-grows : goal.returns-in_err-label-clause-grows
returns-in_err-label-clause-grows g c = c.label_of.ensures.grows

pub returns-in_err-lead-clause-stand : goal.returns-in_err-lead-clause-stand
returns-in_err-lead-clause-stand g c = c.lead_of.ensures.stand ∙ c.label_of.ensures.stand

pub returns-in_err-lead-clause-founded : goal.returns-in_err-lead-clause-founded
returns-in_err-lead-clause-founded g c =
    stays_after _ _ _ _ c.label_of.ensures.grows c.label_of.ensures.founded c.lead_of.ensures.founded

pub returns-in_err-lead-clause-asks : goal.returns-in_err-lead-clause-asks
returns-in_err-lead-clause-asks g c =
    asks_after nothing [] _ _ _ c.label_of.ensures.grows c.label_of.ensures.asks c.lead_of.ensures.asks

pub returns-in_err-lead-clause-grows : goal.returns-in_err-lead-clause-grows
returns-in_err-lead-clause-grows g c =
    grows_trans _ _ _ c.label_of.ensures.grows c.lead_of.ensures.grows

pub returns-clause-stand : goal.returns-clause-stand
returns-clause-stand g c = c.lead_of.ensures.stand ∙ c.label_of.ensures.stand

pub returns-clause-founded : goal.returns-clause-founded
returns-clause-founded g c =
    stays_after _ _ _ _ c.label_of.ensures.grows c.label_of.ensures.founded c.lead_of.ensures.founded

pub returns-clause-asks : goal.returns-clause-asks
returns-clause-asks g c =
    asks_after nothing [] _ _ _ c.label_of.ensures.grows c.label_of.ensures.asks c.lead_of.ensures.asks

pub returns-clause-grows : goal.returns-clause-grows
returns-clause-grows g c =
    grows_trans _ _ _ c.label_of.ensures.grows c.lead_of.ensures.grows
