use Rattle.std.proofs.Common.{arith}
use Rattle.desk_session.proofs.serve.serve.Goals as goal

pub loop-init : goal.loop-init
loop-init g c = record { of = c.requires.pass; parts = c.requires.parts; waits = λ start waits. waits }

pub loop-preserved : goal.loop-preserved
loop-preserved g c = record {
  of = c.in_default.ensures.pass;
  parts = omega (arith, c.in_default.ensures.parts, c.loop.invariant.parts);
  waits = λ start waits. c.in_default.ensures.turns start (c.loop.invariant.waits start waits);
}

pub returns-in-Err-clause-goes : goal.returns-in-Err-clause-goes
returns-in-Err-clause-goes g c = λ start waits. c.in-Err.ensures.turns start (c.loop.invariant.waits start waits)
