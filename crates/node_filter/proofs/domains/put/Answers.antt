use Rattle.std.proofs.Common.{◌≡◌, ◌∙◌, [], ap, append-nil, length, rules, subst, sym}
use Rattle.std.specs.Arc.{arc_value}
use Rattle.dita_doc.specs.Tree.{tree_of}
use Rattle.dita_doc.specs.declared.doc.Doc.{Doc}
use Rattle.ditaval_rules.specs.Declarations.{AreDeclarations}
use Rattle.readers.specs.Told.{tree_found}
use Rattle.node_filter.proofs.DomainLaws.{known_none, known_put}
use Rattle.node_filter.proofs.domains.put.Goals as goal

pub returns-in_default-clause-longer : goal.returns-in_default-clause-longer
returns-in_default-clause-longer c = ([], sym (append-nil c.args.documents.now.items))

pub returns-in_default-clause-known : goal.returns-in_default-clause-known
returns-in_default-clause-known c = λ world name found.
    known_none world c.args.documents.now.items name (found ∙ ap tree_found c.in_default.is)

pub returns-clause-longer : goal.returns-clause-longer
returns-clause-longer c = (_, c.in_ok-push.ensures.items)

pub returns-clause-known : goal.returns-clause-known
returns-clause-known c = λ world name found.
    let at : c.len-at.result ≡ length c.args.documents.now.items = search rules in
    known_put world c.args.documents.now.items c.push.new.self.items name c.in_ok-of.field-0
    (tree_of (arc_value c.in-Some.doc).nodes) c.len-at.result at c.in_ok-push.ensures.items
    (found ∙ ap tree_found c.in-Some.is)
    (subst (λ (d : Doc). AreDeclarations (tree_of d.nodes) c.in_ok-of.field-0) c.deref.ensures c.in_ok-of.ensures)
