use Rattle.desk_top.proofs.WritingLaws.{text_written}
use Rattle.desk_top.proofs.generate.run_gen.Goals as goal

pub returns-in-Ok : goal.returns-in-Ok
returns-in-Ok g c = text_written _ _ _ _ _ c.in-Ok.ensures (rw c.as_slice.ensures at c.written.ensures)
