use Rattle.std.proofs.Common.{◌≡◌, take}
use Rattle.dita_doc.specs.HtmlEscapes.{escaped}
use Rattle.dita_doc.proofs.escapes.split_at_html_escape.Given as goal

abbrev pub invariant-loop-at : goal.invariant-loop-at
invariant-loop-at l = escaped (take l.at l.text) ≡ take l.at l.text
