use Rattle.std.proofs.Common.{◌≡◌, length}
use Rattle.dita_doc.specs.ClassValue.{without_blanks}
use Rattle.dita_doc.proofs.class.without_blanks.Given as goal

abbrev pub invariant-loop-first : goal.invariant-loop-first
invariant-loop-first l = without_blanks l.text ≡ without_blanks l.rest

abbrev pub decreases-loop-first : goal.decreases-loop-first
decreases-loop-first l = length l.rest
