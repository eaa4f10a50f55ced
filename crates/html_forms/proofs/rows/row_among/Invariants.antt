use Rattle.std.proofs.Common.{◌≡◌, length}
use Rattle.std.specs.Option.{option_or}
use Rattle.dita_doc.specs.ClassValue.{words_of}
use Rattle.html_forms.specs.Shown.{row_among, row_found}
use Rattle.html_forms.proofs.rows.row_among.Given as goal

abbrev pub invariant-loop-word : goal.invariant-loop-word
invariant-loop-word l = row_among (words_of l.tokens) ≡ option_or (row_among (words_of l.rest)) (row_found l.last)

abbrev pub decreases-loop-word : goal.decreases-loop-word
decreases-loop-word l = length l.rest
