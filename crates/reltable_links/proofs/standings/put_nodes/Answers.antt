use Rattle.reltable_links.specs.Standings.{leads_from, reaches_at}
use Rattle.reltable_links.proofs.LoopLaws.{any_more}
use Rattle.reltable_links.proofs.standings.put_nodes.Goals as goal

pub loop-node-preserved : goal.loop-node-preserved
loop-node-preserved c = λ page cell.
    any_more (leads_from page c.args.own.now cell) c.args.nodes.now c.loop-node.node-index _ c.loop-node-test.true
    (reaches_at page c.args.pages.now.entries cell) (reaches_at page c.loop-node.pages.entries cell)
    (reaches_at page c.put_node.new.pages.entries cell) (c.in_ok-put_node.ensures page cell)
    (c.loop-node.invariant page cell)
