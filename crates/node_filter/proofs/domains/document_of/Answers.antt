use Rattle.readers.proofs.GrowthLaws.{told_answer}
use Rattle.node_filter.proofs.DomainLaws.{place_found}
use Rattle.node_filter.proofs.domains.document_of.Goals as goal

pub returns-in-Some-clause-known : goal.returns-in-Some-clause-known
returns-in-Some-clause-known g c = λ world agrees known.
    place_found world c.args.documents.now.items c.args.name.now c.args.known.now.entries c.in-Some.document.now
    c.in-Some.ensures.value known

pub returns-clause-known : goal.returns-clause-known
returns-clause-known g c = λ world agrees.
    c.keep.ensures world (told_answer world _ _ _ c.in_ok-found.ensures.told agrees)
