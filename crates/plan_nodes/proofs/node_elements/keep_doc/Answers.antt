use Rattle.plan_nodes.proofs.HomeLaws.{place_put}
use Rattle.plan_nodes.proofs.node_elements.keep_doc.Goals as goal

pub returns-clause-known : goal.returns-clause-known
returns-clause-known c = λ world is known.
    place_put world c.args.docs.now.items c.put_doc.new.docs.items c.args.name.now c.in_ok-clone.field-0
    c.in_ok-doc.doc c.args.known.now.entries c.insert.new.self.entries c.in_ok-doc.ensures.longer
    c.in_ok-clone.ensures.cases c.in_ok-insert.ensures.entries known (c.in_ok-doc.ensures.known world is)
