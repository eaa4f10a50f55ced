use Rattle.std.proofs.Common.{subst, sym}
use Rattle.std.specs.Option.{option_copied}
use Rattle.std.specs.Prelude.{Err}
use Rattle.desk_lock.specs.Meaning.{meant_by}
use Rattle.desk_lock.specs.Tokens.{pass_view}
use Rattle.desk_work.specs.Build.{order_of}
use Rattle.desk_session.proofs.AskLaws.{builds_none, gives_built}
use Rattle.desk_session.specs.Asking.{Builds}
use Rattle.desk_session.proofs.ask.build_alone.Goals as goal

pub returns-in-Ok-clause-builds : goal.returns-in-Ok-clause-builds
returns-in-Ok-clause-builds g c =
    let means = meant_by g.P.Parts.plan_agrees g.P.Parts.own_agrees g.P.Parts.is_sound in
    let order = order_of c.args.number c.args.map.now (option_copied c.args.val) in
    gives_built means g.M.Makers.language (pass_view c.args.pass.now) order c.in-Ok.built (pass_view c.build-built.new.pass)
    _ _ c.in-Ok.ensures.ends

pub returns-in-Err-clause-builds : goal.returns-in-Err-clause-builds
returns-in-Err-clause-builds g c =
    let means = meant_by g.P.Parts.plan_agrees g.P.Parts.own_agrees g.P.Parts.is_sound in
    let order = order_of c.args.number c.args.map.now (option_copied c.args.val) in
    let v = pass_view c.args.pass.now in
    let w = pass_view c.build-built.new.pass in
    subst (λ stop. Builds means g.M.Makers.language v order (Err stop) w) (sym c.stop_of.ensures)
    (builds_none means g.M.Makers.language v w order _ _ c.in-Err.stop c.in-Err.ensures.ends)
