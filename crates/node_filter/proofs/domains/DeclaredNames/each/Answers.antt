use Rattle.std.proofs.Common.{◌∙◌}
use Rattle.dita_doc.proofs.Lists.{get_read}
use Rattle.node_filter.proofs.DomainLaws.{each_next}
use Rattle.node_filter.proofs.domains.DeclaredNames.each.Goals as goal

pub loop-at-preserved : goal.loop-at-preserved
loop-at-preserved c = λ world declared.
    let nodes = c.args.nodes.now in
    let node = c.index-nodes-at.result in
    let here = get_read nodes c.loop-at.at node c.loop-at-test.true c.index-nodes-at.is in
    each_next world nodes c.loop-at.at node c.loop-at.names _ _ c.loop-at-test.true c.index-nodes-at.is
    (c.names.ensures world nodes declared here) c.in_ok-push.ensures
    ∙ c.loop-at.invariant world declared
