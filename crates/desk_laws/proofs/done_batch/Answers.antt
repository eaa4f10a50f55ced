use Rattle.desk_laws.proofs.BatchLaws.{done_batch}
use Rattle.desk_laws.proofs.done_batch.Goals as goal

pub returns : goal.returns
returns c = done_batch
