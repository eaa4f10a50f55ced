use Rattle.std.specs.List.{list_any}
use Rattle.reltable_links.specs.Standings.{reached}
use Rattle.reltable_links.proofs.LoopLaws.{any_more}
use Rattle.reltable_links.proofs.standings.Standings.append_all.Goals as goal

pub loop-standing-preserved : goal.loop-standing-preserved
loop-standing-preserved c = λ test.
    any_more (reached test c.args.self.now.rows.entries) c.args.standings.now c.loop-standing.standing-index _
    c.loop-standing-test.true (list_any test c.args.linked.now.items) (list_any test c.loop-standing.linked.items)
    (list_any test c.append_row.new.linked.items) (c.in_ok-append_row.ensures test) (c.loop-standing.invariant test)
