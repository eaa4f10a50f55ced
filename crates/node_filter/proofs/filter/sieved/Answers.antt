use Rattle.std.proofs.Common.{◌∙◌}
use Rattle.dita_doc.proofs.Lists.{get_read}
use Rattle.node_filter.proofs.HomeLaws.{home_found}
use Rattle.node_filter.proofs.SieveLaws.{pass_next}
use Rattle.node_filter.proofs.filter.sieved.Goals as goal

pub loop-at-preserved : goal.loop-at-preserved
loop-at-preserved c = λ world all declared.
    let nodes = c.args.nodes.now in
    let node = c.index-nodes-at.result in
    let here = get_read nodes c.loop-at.at node c.loop-at-test.true c.index-nodes-at.is in
    pass_next world c.args.table.now nodes c.loop-at.at node _ _ c.loop-at.sieve _ c.loop-at-test.true
    c.index-nodes-at.is (c.names-declared.ensures world nodes declared here)
    (home_found world c.args.elements.now.homes nodes c.loop-at.at node c.element.result all here c.element.ensures)
    c.in_ok-pass.ensures
    ∙ c.loop-at.invariant world all declared
