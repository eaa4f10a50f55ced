use Rattle.std.proofs.Common.{length}
use Rattle.transcript_text.proofs.ReadLaws.{HasReadLines}
use Rattle.transcript_text.proofs.read.read_transcript.Given as goal

abbrev pub invariant-loop-line : goal.invariant-loop-line
invariant-loop-line l = HasReadLines l.state l.number l.bytes l.rest

abbrev pub decreases-loop-line : goal.decreases-loop-line
decreases-loop-line l = length l.rest
