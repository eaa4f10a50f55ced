use Rattle.desk_laws.proofs.WholeLaws.{answered_all}
use Rattle.desk_laws.proofs.answered_run.Goals as goal

pub returns : goal.returns
returns c = answered_all
