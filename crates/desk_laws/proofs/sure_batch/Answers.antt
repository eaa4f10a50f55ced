use Rattle.desk_laws.proofs.BatchLaws.{sure_done, sure_status}
use Rattle.desk_laws.proofs.sure_batch.Goals as goal

pub returns-clause-status : goal.returns-clause-status
returns-clause-status c = sure_status

pub returns-clause-done : goal.returns-clause-done
returns-clause-done c = λ old new held steps status tells script none ends.
    sure_done old new held tells steps status script none ends
