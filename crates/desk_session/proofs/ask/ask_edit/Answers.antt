use Rattle.std.proofs.Common.{◌≡◌, ◌∙◌, Err, inr, rules, subst, sym}
use Rattle.dita_doc.specs.Seen.{reply_seen, request_seen}
use Rattle.dita_doc.specs.declared.stop.Stop.TheVariants as stops
use Rattle.desk_lock.specs.Tokens.{pass_view}
use Rattle.desk_session.proofs.AskLaws.{edit_stop, puts_alone, puts_edit}
use Rattle.desk_session.specs.Asking.{Puts, TellsReply}
use Rattle.desk_session.proofs.ask.ask_edit.Goals as goal

pub returns-clause-puts : goal.returns-clause-puts
returns-clause-puts g c =
    let answer = reply_seen c.in_ok-place.reply in
    puts_edit g.M.Makers.language.clean (pass_view c.args.pass.now) (pass_view c.edit.new.pass) c.args.number
    c.in_ok-place.place (request_seen c.args.request) answer c.in_ok-place.ensures.ok c.in_ok-reply_answer.field-0
    c.requires.no_build
    (subst (λ session. TellsReply c.in_ok-place.place session c.args.number answer c.in_ok-reply_answer.field-0)
    (c.session-session.ensures ∙ c.requires.pass.session) c.in_ok-reply_answer.ensures)

pub returns-in_err-place-clause-puts : goal.returns-in_err-place-clause-puts
returns-in_err-place-clause-puts g c =
    let v = pass_view c.args.pass.now in
    let w = pass_view c.edit.new.pass in
    let stop = c.in_err-place.field-0.0 in
    let asked = request_seen c.args.request in
    let clean = g.M.Makers.language.clean in
    let is : c.from_residual.result ≡ Err stop = search rules in
    subst (λ result. Puts clean v c.args.number asked result w) (sym is)
    (edit_stop clean v w c.args.number asked stop c.in_err-place.ensures.err)

pub returns-in_err-reply_answer-clause-puts : goal.returns-in_err-reply_answer-clause-puts
returns-in_err-reply_answer-clause-puts g c =
    let v = pass_view c.args.pass.now in
    let w = pass_view c.edit.new.pass in
    let asked = request_seen c.args.request in
    let clean = g.M.Makers.language.clean in
    let is : c.from_residual-in_err-reply_answer.result ≡ Err stops.NoMemory = search rules in
    subst (λ result. Puts clean v c.args.number asked result w) (sym is)
    (inr (puts_alone clean v w c.args.number c.in_ok-place.place asked (reply_seen c.in_ok-place.reply)
    c.in_ok-place.ensures.ok))
