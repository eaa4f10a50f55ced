use Rattle.html_laws.proofs.OnceLaws.{one_reading}
use Rattle.html_laws.proofs.markup_is_read_once.Goals as goal

pub returns : goal.returns
returns c = one_reading
