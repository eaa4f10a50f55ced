use Rattle.reltable_links.specs.Standings.{reaches_at, stands_in}
use Rattle.reltable_links.proofs.LoopLaws.{any_alone}
use Rattle.reltable_links.proofs.standings.pages_from.Goals as goal

pub loop-own-preserved : goal.loop-own-preserved
loop-own-preserved c = λ rise page cell.
    any_alone (stands_in page c.args.nodes.now cell) c.args.cells.now c.loop-own.own-index _ c.loop-own-test.true
    (reaches_at page c.loop-own.pages.entries cell) (reaches_at page c.put_pages.new.pages.entries cell)
    (c.in_ok-put_pages.ensures rise page cell) (c.loop-own.invariant rise page cell)
