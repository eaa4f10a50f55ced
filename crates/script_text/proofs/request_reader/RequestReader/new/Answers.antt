use Rattle.std.proofs.Common.{[], Some}
use Rattle.script_text.proofs.request_reader.RequestReader.new.Goals as goal

pub invariant_of-result : goal.invariant_of-result
invariant_of-result c = (Some [], c.new.ensures)
