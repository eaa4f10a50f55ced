use Rattle.std.proofs.Common.{append_assoc, rules}
use Rattle.fault_report.proofs.line.place_and_code.Goals as goal

pub returns : goal.returns
returns c = simp append_assoc (search rules)
