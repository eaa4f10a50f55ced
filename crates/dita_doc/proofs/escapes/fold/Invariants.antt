use Rattle.std.proofs.Common.{length}
use Rattle.dita_doc.proofs.EscapeLaws.{IsFoldedUpTo}
use Rattle.dita_doc.proofs.escapes.fold.Given as goal

abbrev pub invariant-loop-word : goal.invariant-loop-word
invariant-loop-word l = IsFoldedUpTo l.text l.line.items (length l.yielded)
