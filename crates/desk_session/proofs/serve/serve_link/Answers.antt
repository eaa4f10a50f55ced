use Rattle.std.proofs.Common.{refl}
use Rattle.desk_lock.specs.Tokens.{pass_view}
use Rattle.desk_session.proofs.EndLaws.{ends_unbegun}
use Rattle.desk_session.proofs.SoFarLaws.{waits_first}
use Rattle.desk_session.specs.SoFar.{Start}
use Rattle.desk_session.proofs.serve.serve_link.Goals as goal

pub returns-in-Ok-clause-served : goal.returns-in-Ok-clause-served
returns-in-Ok-clause-served g c =
    let start : Start = record { view = pass_view c.args.pass.now; told = g.L.Link.told c.args.link.now } in
    c.serve.ensures.goes start (waits_first g.M.Makers.language.clean start _ c.in-Ok.ensures refl)

pub returns-in-Err-clause-served : goal.returns-in-Err-clause-served
returns-in-Err-clause-served g c =
    let start : Start = record { view = pass_view c.args.pass.now; told = g.L.Link.told c.args.link.now } in
    ends_unbegun g.M.Makers.language.clean start
