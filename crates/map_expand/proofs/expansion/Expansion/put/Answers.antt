use Rattle.std.proofs.Common.{arith, refl}
use Rattle.map_expand.proofs.expansion.Expansion.put.Goals as goal

pub returns-then-count-ge-NODE_LIMIT-clause-full : goal.returns-then-count-ge-NODE_LIMIT-clause-full
returns-then-count-ge-NODE_LIMIT-clause-full c = (refl, omega (arith, c.if-count-ge-NODE_LIMIT.true))
