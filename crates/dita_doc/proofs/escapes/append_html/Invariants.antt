use Rattle.std.proofs.Common.{◌≡◌, ◌++◌, length}
use denote.Text.{Utf8}
use denote.Shadow.{shadow}
use Rattle.dita_doc.specs.HtmlEscapes.{escaped}
use Rattle.dita_doc.proofs.escapes.append_html.Given as goal

abbrev pub invariant-loop-front : goal.invariant-loop-front
invariant-loop-front l = shadow (Utf8 l.rest) × (l.out ++ escaped l.rest ≡ l.fn.out ++ escaped l.text)

abbrev pub decreases-loop-front : goal.decreases-loop-front
decreases-loop-front l = length l.rest
