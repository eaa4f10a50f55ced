use Rattle.std.proofs.Common.{◌≡◌, ◌+◌, ◌∙◌, [], drop, sym, ap}
use Rattle.std.specs.List.{list_any}
use Rattle.std.proofs.lemmas.List.{drop_all}
use Rattle.conref_push.proofs.ActLaws.{any_here, any_more, any_node, any_there, node_acts}
use Rattle.conref_push.proofs.acts.has_conaction_in.Goals as goal

pub loop-node-preserved : goal.loop-node-preserved
loop-node-preserved c = λ name.
    let nodes = c.as_slice-node-items.result.now in
    any_there _ (list_any (node_acts name) (drop (c.loop-node.node-index + 1) nodes)) (list_any (node_acts name) nodes)
    (c.if-acts.ensures name)
    (c.loop-node.invariant name ∙ any_more (node_acts name) nodes c.loop-node.node-index _ c.loop-node-test.true
    c.node-item.is)

pub returns-then-acts : goal.returns-then-acts
returns-then-acts c = λ name.
    let nodes = c.as_slice-node-items.result.now in
    any_here _ (list_any (node_acts name) (drop (c.loop-node.node-index + 1) nodes)) (list_any (node_acts name) nodes)
    (c.if-acts.ensures name)
    (c.loop-node.invariant name ∙ any_more (node_acts name) nodes c.loop-node.node-index _ c.loop-node-test.true
    c.node-item.is)
    ∙ ap (list_any (node_acts name)) c.as_slice-node-items.ensures
    ∙ any_node name c.args.doc.now.nodes c.args.doc.now.tree

pub returns : goal.returns
returns c = λ name.
    let nodes = c.as_slice-node-items.result.now in
    let none : drop c.loop-node.node-index nodes ≡ [] = drop_all c.loop-node.node-index nodes c.loop-node-test.false in
    sym (c.loop-node.invariant name ∙ ap (list_any (node_acts name)) none)
    ∙ ap (list_any (node_acts name)) c.as_slice-node-items.ensures
    ∙ any_node name c.args.doc.now.nodes c.args.doc.now.tree
