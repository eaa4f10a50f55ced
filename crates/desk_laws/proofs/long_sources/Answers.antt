use Rattle.desk_laws.proofs.WholeLaws.{cut_run}
use Rattle.desk_laws.proofs.long_sources.Goals as goal

pub returns : goal.returns
returns c = cut_run
