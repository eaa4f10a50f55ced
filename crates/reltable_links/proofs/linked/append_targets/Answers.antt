use Rattle.std.proofs.Common.{◌++◌, take}
use Rattle.std.specs.Prelude.{filter}
use Rattle.dita_doc.specs.declared.content.LinkKind.TheVariants as links
use Rattle.link_groups.specs.LinkLists.{links_to_nodes}
use Rattle.reltable_links.specs.Linked.{is_target}
use Rattle.reltable_links.proofs.LoopLaws.{linked_more}
use Rattle.reltable_links.proofs.linked.append_targets.Goals as goal

pub loop-node-preserved : goal.loop-node-preserved
loop-node-preserved c = λ own all holds.
    linked_more own all c.args.nodes.now c.loop-node.node-index _ c.append_target.new.links c.loop-node-test.true
    (c.in_ok-append_target.ensures own (all ++ links_to_nodes own links.Related
    (filter is_target (take c.loop-node.node-index c.args.nodes.now))) (c.loop-node.invariant own all holds))
