use Rattle.std.proofs.Common.{◌++◌, take}
use Rattle.link_groups.specs.LinkLists.{links_to_nodes}
use Rattle.link_groups.proofs.ListLaws.{nodes_more}
use Rattle.link_groups.proofs.link_list.LinkList.put_nodes.Goals as goal

pub loop-node-preserved : goal.loop-node-preserved
loop-node-preserved c = λ own all holds.
    nodes_more own all c.args.kind c.args.nodes.now c.loop-node.node-index _ c.push_node.new.self
    c.loop-node-test.true
    (c.in_ok-push_node.ensures own
    (all ++ links_to_nodes own c.args.kind (take c.loop-node.node-index c.args.nodes.now))
    (c.loop-node.invariant own all holds))
