use Rattle.std.proofs.Common.{◌≡◌, ◌++◌, length}
use Rattle.dita_doc.specs.PyxEscapes.{escaped}
use Rattle.dita_doc.proofs.escapes.append_pyx.Given as goal

abbrev pub invariant-loop-front : goal.invariant-loop-front
invariant-loop-front l = l.out ++ escaped l.rest ≡ l.fn.out ++ escaped l.text

abbrev pub decreases-loop-front : goal.decreases-loop-front
decreases-loop-front l = length l.rest
