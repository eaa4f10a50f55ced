use Rattle.faithful_laws.proofs.PagesReadLaws.{reads_pages}
use Rattle.faithful_laws.proofs.pages_in_rows.Goals as goal

pub returns : goal.returns
returns c = reads_pages
