use Rattle.std.proofs.Common.{refl, sym, subst}
use Rattle.run_spec.specs.declared.status.Status.TheVariants as statuses
use Rattle.run_spec.specs.EndsBatch.{IsBatchOf}
use Rattle.desk_top.proofs.batch.batch.Goals as goal

pub returns-in_ok-transcript-in-Ok : goal.returns-in_ok-transcript-in-Ok
returns-in_ok-transcript-in-Ok g c =
    subst (λ found. IsBatchOf found statuses.Done c.in_ok-transcript-in-Ok.field-0) (sym c.in-Ok.ensures)
    (refl, c.in_ok-transcript-in-Ok.ensures)

pub returns-in_ok-to_line-in-Err-Fault : goal.returns-in_ok-to_line-in-Err-Fault
returns-in_ok-to_line-in-Err-Fault g c =
    let fault = rw c.in-Err-Fault.field-0-is at c.in-Err-Fault.ensures in
    subst (λ found. IsBatchOf found statuses.Script c.in_ok-to_line-in-Err-Fault.field-0) (sym fault)
    (refl, c.in_ok-to_line-in-Err-Fault.ensures)
