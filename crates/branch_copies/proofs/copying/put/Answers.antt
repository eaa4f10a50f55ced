use Rattle.std.proofs.Common.{arith}
use Rattle.branch_copies.proofs.copying.put.Goals as goal

pub returns-clause-room : goal.returns-clause-room
returns-clause-room c = omega arith
