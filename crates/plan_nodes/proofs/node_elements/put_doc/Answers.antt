use Rattle.std.proofs.Common.{◌≡◌, ◌∙◌, [], ap, append-nil, length, rules, sym}
use Rattle.readers.specs.Told.{tree_found}
use Rattle.plan_nodes.proofs.HomeLaws.{known_put}
use Rattle.plan_nodes.proofs.node_elements.put_doc.Goals as goal

pub returns-in_default-clause-longer : goal.returns-in_default-clause-longer
returns-in_default-clause-longer c = ([], sym (append-nil c.args.docs.now.items))

pub returns-clause-longer : goal.returns-clause-longer
returns-clause-longer c = (_, c.in_ok-push.ensures.items)

pub returns-clause-known : goal.returns-clause-known
returns-clause-known c = λ world found.
    let at : c.len-at.result ≡ length c.args.docs.now.items = search rules in
    known_put world c.args.docs.now.items c.push.new.self.items c.args.name.now c.in_ok-name.name _ c.len-at.result
    c.in_ok-name.ensures.cases at c.in_ok-push.ensures.items (found ∙ ap tree_found c.in-Some.is)
