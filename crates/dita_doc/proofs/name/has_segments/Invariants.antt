use Rattle.std.proofs.Common.{◌≡◌, length}
use Rattle.std.specs.List.{list_all}
use Rattle.dita_doc.specs.Name.{is_segment, segments_of}
use Rattle.dita_doc.proofs.name.has_segments.Given as goal

abbrev pub invariant-loop-segment : goal.invariant-loop-segment
invariant-loop-segment l = list_all is_segment (segments_of l.bytes) ≡ list_all is_segment (segments_of l.rest)

abbrev pub decreases-loop-segment : goal.decreases-loop-segment
decreases-loop-segment l = length l.rest
