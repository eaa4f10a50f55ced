use Rattle.std.proofs.Common.{◌≡◌, ◌++◌, List, [], drop, map, ap, sym, ◌∙◌}
use Rattle.std.proofs.lemmas.List.{append-nil, drop_all}
use Rattle.dita_doc.specs.declared.doc.Node.{Node}
use Rattle.ditaval_rules.specs.Declarations.{declaring_among, declaring_of}
use Rattle.ditaval_rules.proofs.DeclarationLaws.{among_tree}
use Rattle.ditaval_rules.proofs.declarations.Declarations.of.Goals as goal

pub returns : goal.returns
returns c =
    let items = c.as_slice-node-items.result.now in
    let all = map declaring_of c.loop-node.entries.items in
    let none : drop c.loop-node.node-index items ≡ [] = drop_all c.loop-node.node-index items c.loop-node-test.false in
    sym (ap (λ (l : List Node). all ++ declaring_among c.loop-node.place l) none ∙ append-nil all)
    ∙ c.loop-node.invariant.declaring
    ∙ ap (declaring_among 0) c.as_slice-node-items.ensures
    ∙ among_tree c.args.doc.now.nodes c.args.doc.now.tree
