-- What is so between two messages.
use Rattle.std.proofs.Common.{◌<◌}
use Rattle.desk_lock.specs.Tokens.{IsPassOf, pass_view}
use Rattle.desk_session.specs.SoFar.{Start, Waits}
use Rattle.desk_session.proofs.serve.serve.Given as goal

abbrev pub invariant-loop : goal.invariant-loop
invariant-loop g l = record {
  of : IsPassOf l.desk l.pass;
  parts : 17 < (pass_view l.pass).parts;
  waits : (start : Start)
      → Waits g.M.Makers.language.clean start (pass_view l.fn.pass) (g.L.Link.told l.fn.link) l.fn.reading
      → Waits g.M.Makers.language.clean start (pass_view l.pass) (g.L.Link.told l.link) l.reading;
}
