use Rattle.desk_laws.proofs.WholeLaws.{done_whole}
use Rattle.desk_laws.proofs.done_run.Goals as goal

pub returns : goal.returns
returns c = done_whole
