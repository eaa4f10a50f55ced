use Rattle.std.proofs.Common.{◌≡◌, ◌++◌, length}
use Rattle.std.specs.List.{flat_map}
use Rattle.dita_doc.specs.Lines.{lines_of}
use Rattle.transcript_text.specs.Transcript.{bar_line}
use Rattle.transcript_text.proofs.lines.append_lines.Given as goal

abbrev pub invariant-loop-front : goal.invariant-loop-front
invariant-loop-front l =
    l.out ++ flat_map bar_line (lines_of l.rest) ≡ l.initial.out ++ flat_map bar_line (lines_of l.bytes)

abbrev pub decreases-loop-front : goal.decreases-loop-front
decreases-loop-front l = length l.rest
