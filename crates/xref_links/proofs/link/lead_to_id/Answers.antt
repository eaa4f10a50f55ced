use Rattle.std.proofs.Common.{[], ◌∙◌, ap}
use Rattle.html_spec.specs.Anchors.{lead_of_document}
use Rattle.readers.proofs.GrowthLaws.{agrees_before, grows_trans}
use Rattle.xref_links.specs.Adding.{element_of}
use Rattle.xref_links.proofs.HereLaws.{here_kept}
use Rattle.xref_links.proofs.LeadLaws.{lead_as}
use Rattle.readers.specs.Documents.{nothing}
use Rattle.readers.proofs.DocumentLaws.{asks_after}
use Rattle.readers.proofs.FoundedLaws.{stays_after}
use Rattle.xref_links.proofs.link.lead_to_id.Goals as goal

pub returns-clause-known : goal.returns-clause-known
returns-clause-known g c = λ here agrees is.
    lead_as here _ _ c.lead_to.result c.args.faults.now c.lead_to.new.faults
    (ap (λ topic. lead_of_document here (element_of c.args.page c.args.standing) c.args.name.now topic c.args.id.now)
    (c.as_str.ensures ∙ c.in_ok-topic.ensures.known here (agrees_before here.world _ _ c.lead_to.ensures.grows agrees)))
    (c.lead_to.ensures.known here agrees (here_kept _ _ c.args.page here c.in_ok-topic.ensures.stand is))

pub returns-in_err-topic-clause-stand : goal.returns-in_err-topic-clause-stand
returns-in_err-topic-clause-stand g c = c.topic_or_first.ensures.stand

pub returns-in_err-topic-clause-founded : goal.returns-in_err-topic-clause-founded
returns-in_err-topic-clause-founded g c = c.topic_or_first.ensures.founded

pub returns-in_err-topic-clause-asks : goal.returns-in_err-topic-clause-asks
returns-in_err-topic-clause-asks g c = c.topic_or_first.ensures.asks

pub returns-in_err-topic-clause-grows : goal.returns-in_err-topic-clause-grows
returns-in_err-topic-clause-grows g c = c.topic_or_first.ensures.grows

pub returns-clause-stand : goal.returns-clause-stand
returns-clause-stand g c = c.lead_to.ensures.stand ∙ c.topic_or_first.ensures.stand

pub returns-clause-founded : goal.returns-clause-founded
returns-clause-founded g c =
    stays_after _ _ _ _ c.topic_or_first.ensures.grows c.topic_or_first.ensures.founded c.lead_to.ensures.founded

pub returns-clause-asks : goal.returns-clause-asks
returns-clause-asks g c =
    asks_after nothing [] _ _ _ c.topic_or_first.ensures.grows c.topic_or_first.ensures.asks c.lead_to.ensures.asks

pub returns-clause-grows : goal.returns-clause-grows
returns-clause-grows g c =
    grows_trans _ _ _ c.topic_or_first.ensures.grows c.lead_to.ensures.grows
