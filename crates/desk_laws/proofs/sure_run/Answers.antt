use Rattle.desk_laws.proofs.WholeLaws.{sure_status, sure_whole}
use Rattle.desk_laws.proofs.sure_run.Goals as goal

pub returns-clause-status : goal.returns-clause-status
returns-clause-status c = sure_status

pub returns-clause-whole : goal.returns-clause-whole
returns-clause-whole c = sure_whole
