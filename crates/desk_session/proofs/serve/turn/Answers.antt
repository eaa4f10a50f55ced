use Rattle.std.proofs.Common.{◌≡◌, Err, Ok, rules, subst, sym}
use Rattle.dita_doc.specs.declared.stop.Stop.{Stop}
use Rattle.dita_outside.specs.Links.{Receives}
use Rattle.dita_outside.specs.declared.Failed.{Failed}
use Rattle.desk_lock.specs.Tokens.{pass_view}
use Rattle.desk_session.proofs.EndLaws.{ends_closed, ends_receiving}
use Rattle.desk_session.proofs.SoFarLaws.{may_read}
use Rattle.desk_session.specs.Saying.{end_by}
use Rattle.desk_session.specs.SoFar.{GoesAgain, MayRead}
use Rattle.desk_session.proofs.serve.turn.Goals as goal

pub returns-in_err-message-clause-turns : goal.returns-in_err-message-clause-turns
returns-in_err-message-clause-turns g c = λ start waits.
    let clean = g.M.Makers.language.clean in
    let v = pass_view c.args.pass.now in
    let old = g.L.Link.told c.args.link.now in
    let new = g.L.Link.told c.receive.new.self in
    let stop = c.in_err-message.field-0.0 in
    let is : c.from_residual.result ≡ Err (end_by stop) = search rules in
    subst (λ answer. GoesAgain clean start answer v new c.args.reading.now) (sym is)
    (ends_receiving clean start v old new c.args.reading.now stop waits c.in_err-message.ensures.left
    c.in_err-message.ensures.sent c.in_err-message.ensures.cause.later c.in_err-message.ensures.cause.failed)

pub returns-in-Some-clause-turns : goal.returns-in-Some-clause-turns
returns-in-Some-clause-turns g c = λ start waits.
    let clean = g.M.Makers.language.clean in
    let v = pass_view c.args.pass.now in
    let old = g.L.Link.told c.args.link.now in
    let new = g.L.Link.told c.receive.new.self in
    let left = subst (λ found. Receives {E = Stop Failed} old.left new.left (Ok found)) c.in-Some.is
    c.in_ok-message.ensures.left in
    c.take.ensures.takes start
    (subst (MayRead clean start v new c.args.reading.now) (sym c.as_slice-message.ensures)
    (may_read clean start v old new c.args.reading.now c.in-Some.message waits left c.in_ok-message.ensures.sent
    c.in_ok-message.ensures.cause.stays))

pub returns-in-None-clause-turns : goal.returns-in-None-clause-turns
returns-in-None-clause-turns g c = λ start waits.
    let old = g.L.Link.told c.args.link.now in
    let new = g.L.Link.told c.receive.new.self in
    let left = subst (λ found. Receives {E = Stop Failed} old.left new.left (Ok found)) c.in-None.is
    c.in_ok-message.ensures.left in
    ends_closed g.M.Makers.language.clean start (pass_view c.args.pass.now) old new c.args.reading.now waits left.0
    c.in_ok-message.ensures.sent left.1 c.in_ok-message.ensures.cause.stays
