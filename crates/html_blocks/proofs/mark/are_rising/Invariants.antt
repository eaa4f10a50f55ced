use Rattle.std.proofs.Common.{◌≤◌}
use Rattle.std.specs.List.{AllAdjacentBelow}
use Rattle.dita_doc.specs.declared.content.Mark.{Mark}
use Rattle.html_blocks.proofs.mark.are_rising.Given as goal

abbrev pub invariant-loop-at : goal.invariant-loop-at
invariant-loop-at l = AllAdjacentBelow (λ (one other : Mark). one.place ≤ other.place) l.marks l.at
