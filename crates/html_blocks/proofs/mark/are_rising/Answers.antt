use Rattle.std.proofs.Common.{arith}
use Rattle.std.proofs.lemmas.List.Sorted.{IsNonDecreasingBy-from_all_adjacent}
use Rattle.dita_doc.specs.declared.content.Mark.{Mark}
use Rattle.html_blocks.proofs.mark.are_rising.Goals as goal

pub returns : goal.returns
returns c = IsNonDecreasingBy-from_all_adjacent (λ (mark : Mark). mark.place) c.args.marks.now
    (λ k d low. c.loop-at.invariant k d (omega (arith, low, c.loop-at-test.false)))
