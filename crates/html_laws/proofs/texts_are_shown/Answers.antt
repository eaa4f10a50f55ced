use Rattle.html_laws.proofs.PieceLaws.{text_is_shown, value_is_shown}
use Rattle.html_laws.proofs.texts_are_shown.Goals as goal

pub returns : goal.returns
returns c = record { text = text_is_shown; value = value_is_shown }
