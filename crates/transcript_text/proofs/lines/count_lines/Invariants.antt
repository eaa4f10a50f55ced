use Rattle.std.proofs.Common.{◌≡◌, ◌+◌, ◌≤◌, length}
use Rattle.dita_doc.specs.Lines.{lines_of}
use Rattle.transcript_text.proofs.lines.count_lines.Given as goal

abbrev pub invariant-loop-back : goal.invariant-loop-back
invariant-loop-back l = record {
  counted : l.count + length (lines_of l.rest) ≡ length (lines_of l.bytes);
  within : l.count + length l.rest ≤ length l.bytes;
}

abbrev pub decreases-loop-back : goal.decreases-loop-back
decreases-loop-back l = length l.rest
