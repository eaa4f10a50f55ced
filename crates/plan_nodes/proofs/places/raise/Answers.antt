use Rattle.std.proofs.Common.{ap, ◌∙◌, get_or, set}
use Rattle.plan_nodes.proofs.EndLaws.{raised_write}
use Rattle.plan_nodes.proofs.places.raise.Goals as goal

pub returns : goal.returns
returns c =
    let nodes = c.args.nodes.now in
    let at = c.args.at in
    let node = get_or nodes at c.index-nodes-at.result in
    ap (λ end. set nodes at (record node { end = end })) c.max-node.ensures
    ∙ raised_write at c.args.end nodes c.index-nodes-at.result c.requires
