use Rattle.std.proofs.Common.{[], Some}
use Rattle.pyx_text.proofs.reader.PyxReader.new.Goals as goal

pub invariant_of-result : goal.invariant_of-result
invariant_of-result c = (Some [], c.new.ensures)
