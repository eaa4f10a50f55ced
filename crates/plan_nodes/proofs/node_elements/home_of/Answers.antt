use Rattle.plan_nodes.proofs.HomeLaws.{home_found}
use Rattle.plan_nodes.proofs.node_elements.home_of.Goals as goal

pub returns-clause-known : goal.returns-clause-known
returns-clause-known g c = λ world agrees known.
    home_found world c.args.docs.now.items c.doc_of.new.docs.items c.doc_of.new.known.entries c.args.node.now
    c.has_element.result c.in_ok-doc.doc c.home_in.result c.has_element.ensures c.if-not-has_element.false
    c.home_in.ensures (c.in_ok-doc.ensures.known world agrees known)
