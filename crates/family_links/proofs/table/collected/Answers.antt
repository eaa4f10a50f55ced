use Rattle.family_links.proofs.MadeLaws.{made_more}
use Rattle.family_links.proofs.table.collected.Goals as goal

pub loop-at-preserved : goal.loop-at-preserved
loop-at-preserved c =
    made_more c.args.kinds.now c.args.children.now.entries c.loop-at.at _ c.loop-at.made c.add.new.self
    c.loop-at-test.true c.loop-at.invariant c.in_ok-add.ensures
