use Rattle.std.proofs.Common.{ap, ◌∙◌, ◌++◌, get_or, map, take}
use Rattle.std.proofs.lemmas.List.{append-nil, drop_all, take_all}
use Rattle.std.proofs.lemmas.List.Edits.{map_over_more}
use Rattle.plan_nodes.specs.Preorder.{without_end}
use Rattle.plan_nodes.proofs.places.clear_ends.Goals as goal

pub loop-node-preserved : goal.loop-node-preserved
loop-node-preserved c =
    let nodes = c.loop-node.nodes in
    let at = c.loop-node.node-index in
    map_over_more without_end c.args.nodes.now nodes at (get_or nodes at c.node-item.result)
    c.loop-node-test.true c.loop-node.invariant (ap (get_or nodes at) c.node-item.is)

pub returns : goal.returns
returns c =
    let nodes = c.args.nodes.now in
    let at = c.loop-node.node-index in
    c.loop-node.invariant
    ∙ ap (λ rest. map without_end (take at nodes) ++ rest) (drop_all at nodes c.loop-node-test.false)
    ∙ append-nil (map without_end (take at nodes)) ∙ ap (map without_end) (take_all at nodes c.loop-node-test.false)
