use Rattle.std.proofs.Common.{◌-◌, arith}
use Rattle.html_blocks.proofs.AnchorLaws.{rises_more}
use Rattle.html_blocks.proofs.link.are_by_place.Goals as goal

pub loop-at-preserved : goal.loop-at-preserved
loop-at-preserved c =
    rises_more c.args.anchors.now c.loop-at.at (c.loop-at.at - 1) c.index-anchors-at-in-loop-at.result
    c.index-anchors-at.result (omega (arith, c.loop-at.auto.at)) (omega (arith, c.loop-at-test.true))
    c.if-anchors-at.false c.loop-at.invariant
