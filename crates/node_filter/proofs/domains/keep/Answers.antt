use Rattle.node_filter.proofs.DomainLaws.{place_put}
use Rattle.node_filter.proofs.domains.keep.Goals as goal

pub returns : goal.returns
returns c = λ world is known.
    place_put world c.args.documents.now.items c.put.new.documents.items c.args.name.now c.in_ok-clone.field-0
    c.in_ok-document.document c.args.known.now.entries c.insert.new.self.entries c.in_ok-document.ensures.longer
    c.in_ok-clone.ensures.cases c.in_ok-insert.ensures.entries known (c.in_ok-document.ensures.known world _ is)
