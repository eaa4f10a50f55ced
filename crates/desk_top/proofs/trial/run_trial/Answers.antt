use Rattle.desk_top.proofs.WritingLaws.{nothing_written, text_written}
use Rattle.desk_top.proofs.trial.run_trial.Goals as goal

pub returns-in-Ok : goal.returns-in-Ok
returns-in-Ok g c = text_written _ _ _ _ _ c.in-Ok.ensures (rw c.as_slice.ensures at c.written.ensures)

pub returns-in-Err : goal.returns-in-Err
returns-in-Err g c =
    nothing_written _ (record { taken = g.K.Sink.taken c.args.sink.now; faults = g.K.Sink.faults c.args.sink.now })
