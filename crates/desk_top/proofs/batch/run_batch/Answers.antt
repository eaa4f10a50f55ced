use Rattle.desk_top.proofs.BatchLaws.{batch_written}
use Rattle.desk_top.proofs.batch.run_batch.Goals as goal

pub returns-in-Ok-batch : goal.returns-in-Ok-batch
returns-in-Ok-batch g c =
    let written = rw c.as_slice.ensures at c.written.ensures in
    batch_written _ _ c.in-Ok.input c.in-Ok-batch.output c.in-Ok-batch.status _ c.in-Ok.ensures.ok c.in-Ok-batch.ensures
    c.in-Ok.ensures.cause.stays written
