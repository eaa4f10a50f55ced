use Rattle.std.proofs.Common.{◌≡◌, ◌++◌, length}
use denote.Text.{Utf8}
use denote.Shadow.{shadow}
use Rattle.dita_doc.specs.PyxEscapes.{unescaped}
use Rattle.dita_doc.proofs.escapes.append_unescaped.Given as goal

abbrev pub invariant-loop-front : goal.invariant-loop-front
invariant-loop-front l = shadow (Utf8 l.rest) × (l.out ++ unescaped l.rest ≡ l.fn.out ++ unescaped l.text)

abbrev pub decreases-loop-front : goal.decreases-loop-front
decreases-loop-front l = length l.rest
