use Rattle.std.proofs.Common.{ap, ◌∙◌}
use Rattle.html_forms.specs.Shown.{row_among}
use Rattle.html_forms.proofs.rows.row_of.Goals as goal

pub returns : goal.returns
returns c = λ name. c.row_among.ensures ∙ ap row_among (c.tokens_of.ensures name)
