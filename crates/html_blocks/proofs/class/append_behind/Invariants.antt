use Rattle.std.proofs.Common.{◌≡◌, ◌++◌, length}
use Rattle.html_blocks.specs.Marks.{behind, texts_of}
use Rattle.html_blocks.proofs.class.append_behind.Given as goal

abbrev pub invariant-loop-text : goal.invariant-loop-text
invariant-loop-text l = l.out ++ behind (texts_of l.left) ≡ l.fn.out ++ behind (texts_of l.marks)

abbrev pub decreases-loop-text : goal.decreases-loop-text
decreases-loop-text l = length l.left.among.now
