use Rattle.std.proofs.Common.{ℕ, List, ap, option_map}
use Rattle.html_spec.specs.Blocks as blocks
use Rattle.html_forms.proofs.rows.form_of.Goals as goal

pub returns-in-Some : goal.returns-in-Some
returns-in-Some c = λ name. ap (option_map (λ (row : List ℕ × blocks.Form). row.1)) (c.in-Some.ensures name)

pub returns-in-None : goal.returns-in-None
returns-in-None c = λ name. ap (option_map (λ (row : List ℕ × blocks.Form). row.1)) (c.in-None.ensures name)
