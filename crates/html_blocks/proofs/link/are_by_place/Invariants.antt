use Rattle.html_blocks.proofs.AnchorLaws.{RiseUpTo}
use Rattle.html_blocks.proofs.link.are_by_place.Given as goal

abbrev pub invariant-loop-at : goal.invariant-loop-at
invariant-loop-at l = RiseUpTo l.anchors l.at
