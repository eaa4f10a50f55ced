use Rattle.std.proofs.Common.{◌≡◌, ◌≤◌, length}
use Rattle.html_spec.specs.Blocks.{marks_at}
use Rattle.html_blocks.proofs.mark.ElementMarks.split_first.Given as goal

abbrev pub invariant-loop-mark : goal.invariant-loop-mark
invariant-loop-mark l = record {
  same : marks_at l.left l.self.place ≡ marks_at l.self.among.now l.self.place;
  fewer : length l.left ≤ length l.self.among.now;
}

abbrev pub decreases-loop-mark : goal.decreases-loop-mark
decreases-loop-mark l = length l.left
