use Rattle.std.proofs.Common.{rules, sym, subst, refl}
use Rattle.desk_lock.specs.Meaning.{meant_by}
use Rattle.desk_lock.specs.Tokens.{pass_view}
use Rattle.desk_serve.specs.Ends.{ServesConnections}
use Rattle.desk_serve.proofs.RunLaws.{ends_answered}
use Rattle.desk_serve.proofs.run.serve_at.Goals as goal

pub returns : goal.returns
returns g c =
    let clean = g.B.Builds.clean in
    let told = g.D.Door.told in
    let accepted = c.accept_all-accepted.result.0 in
    let stopped = c.accept_all-accepted.result.1 in
    let lost = c.end_all-lost.result in
    subst (ServesConnections clean c.args.connections (told c.args.door.now) (told c.end_all-lost.new.door))
    (sym c.answer.ensures)
    (ends_answered clean g.D.Connection.Link.told c.args.connections c.args.desk (told c.args.door.now)
    (told c.accept_all-accepted.new.door) (told c.end_all-lost.new.door) accepted stopped
    (pass_view c.end_all-lost.new.pass) lost (meant_by g.P.Parts.plan_agrees g.P.Parts.own_agrees g.P.Parts.is_sound)
    c.close-book.result c.accept_all-accepted.ensures c.end_all-lost.ensures.ends c.close-book.ensures.closes
    c.entries.result lost stopped (search rules) refl refl)
