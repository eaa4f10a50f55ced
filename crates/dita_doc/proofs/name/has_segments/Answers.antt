use Rattle.std.proofs.Common.{refl}
use Rattle.dita_doc.proofs.NameLaws.{segments_cut, one_uncut, shorter}
use Rattle.dita_doc.proofs.name.has_segments.Goals as goal

pub loop-segment-init : goal.loop-segment-init
loop-segment-init c = refl

pub returns-then-not-is_segment : goal.returns-then-not-is_segment
returns-then-not-is_segment c =
    let none = rw c.if-not-is_segment.true at c.is_segment.ensures in
    rw (c.loop-segment.invariant, segments_cut _ _ _ c.in-Some.ensures, ← none)

pub loop-segment-smaller : goal.loop-segment-smaller
loop-segment-smaller c = shorter _ _ _ c.in-Some.ensures

pub loop-segment-preserved : goal.loop-segment-preserved
loop-segment-preserved c =
    let one = rw c.if-not-is_segment.false at c.is_segment.ensures in
    rw (c.loop-segment.invariant, segments_cut _ _ _ c.in-Some.ensures, ← one)

pub returns : goal.returns
returns c = rw (c.loop-segment.invariant, one_uncut _ c.in_default.ensures, c.is_segment-2.ensures)
