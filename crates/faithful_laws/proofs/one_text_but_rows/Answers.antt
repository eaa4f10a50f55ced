use Rattle.faithful_laws.proofs.PagesReadLaws.{differ_in_rows}
use Rattle.faithful_laws.proofs.one_text_but_rows.Goals as goal

pub returns : goal.returns
returns c = differ_in_rows
