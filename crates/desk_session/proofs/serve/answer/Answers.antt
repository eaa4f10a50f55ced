use Rattle.std.proofs.Common.{◌≡◌, Err, refl, rules, subst, sym}
use Rattle.dita_doc.specs.Seen.{request_seen}
use Rattle.desk_lock.specs.Tokens.{pass_view}
use Rattle.desk_session.proofs.EndLaws.{ends_before, ends_full, ends_saying, ends_unasked, ends_untold}
use Rattle.desk_session.proofs.GoesLaws.{goes_nowhere}
use Rattle.desk_session.proofs.LinkLaws.{says_none}
use Rattle.desk_session.proofs.SoFarLaws.{left_said}
use Rattle.desk_session.specs.Asking.{Puts}
use Rattle.desk_session.specs.SoFar.{Leaves}
use Rattle.desk_session.specs.declared.end.SessionEnd.TheVariants.{NoMemory}
use Rattle.desk_session.proofs.serve.answer.Goals as goal

pub returns-in_default-clause-answers : goal.returns-in_default-clause-answers
returns-in_default-clause-answers g c = λ start left has.
    let v = pass_view c.args.pass.now in
    let told = g.L.Link.told c.args.link.now in
    ends_before g.M.Makers.language.clean start v v told told c.args.reading.now (request_seen c.args.request) left has
    NoMemory (goes_nowhere v) (says_none told) tt

pub returns-in_err-say_answer-in-Ok-clause-answers : goal.returns-in_err-say_answer-in-Ok-clause-answers
returns-in_err-say_answer-in-Ok-clause-answers g c = λ start left has.
    let clean = g.M.Makers.language.clean in
    let v = pass_view c.args.pass.now in
    let w = pass_view c.ask.new.pass in
    let old = g.L.Link.told c.args.link.now in
    let new = g.L.Link.told c.say_answer.new.link in
    let was = c.args.reading.now in
    let ended = c.in_err-say_answer-in-Ok.field-0.0 in
    let is : c.from_residual.result ≡ Err ended = search rules in
    subst (λ answer. Leaves clean start left answer w new was) (sym is)
    (ends_saying clean start v w old new was (request_seen c.args.request) left has ended c.in-Some.number c.in-Ok.answer
    c.in-Some.ensures.1 c.in-Ok.ensures.puts c.in_err-say_answer-in-Ok.ensures)

pub returns-in_err-say_full-in-Err-Fault-clause-answers : goal.returns-in_err-say_full-in-Err-Fault-clause-answers
returns-in_err-say_full-in-Err-Fault-clause-answers g c = λ start left has.
    let clean = g.M.Makers.language.clean in
    let v = pass_view c.args.pass.now in
    let w = pass_view c.ask.new.pass in
    let old = g.L.Link.told c.args.link.now in
    let new = g.L.Link.told c.say_full.new.link in
    let was = c.args.reading.now in
    let ended = c.in_err-say_full-in-Err-Fault.field-0.0 in
    let is : c.from_residual-in_err-say_full-in-Err-Fault.result ≡ Err ended = search rules in
    subst (λ answer. Leaves clean start left answer w new was) (sym is)
    (ends_untold clean start v w old new was (request_seen c.args.request) left has ended c.in-Err-Fault.full
    (subst (λ stop. Puts clean v c.in-Some.number (request_seen c.args.request) (Err stop) w) c.in-Err-Fault.field-0-is
    c.in-Err-Fault.ensures.puts)
    c.in_err-say_full-in-Err-Fault.ensures)

pub returns-in_ok-say_answer-in-Ok-clause-answers : goal.returns-in_ok-say_answer-in-Ok-clause-answers
returns-in_ok-say_answer-in-Ok-clause-answers g c = λ start left has.
    left_said g.M.Makers.language.clean start (pass_view c.args.pass.now) (pass_view c.ask.new.pass)
    (g.L.Link.told c.args.link.now) (g.L.Link.told c.say_answer.new.link) c.args.reading.now _
    (request_seen c.args.request) left c.in-Some.number c.in-Ok.answer has c.in-Some.ensures.1 c.in-Ok.ensures.puts
    c.in_ok-say_answer-in-Ok.ensures.0 c.in_ok-say_answer-in-Ok.ensures.1 refl refl

pub returns-in_ok-say_full-in-Err-Fault-clause-answers : goal.returns-in_ok-say_full-in-Err-Fault-clause-answers
returns-in_ok-say_full-in-Err-Fault-clause-answers g c = λ start left has.
    let clean = g.M.Makers.language.clean in
    let v = pass_view c.args.pass.now in
    let w = pass_view c.ask.new.pass in
    ends_full clean start v w
    (g.L.Link.told c.args.link.now) (g.L.Link.told c.say_full.new.link) c.args.reading.now (request_seen c.args.request)
    left has c.in-Err-Fault.full
    (subst (λ stop. Puts clean v c.in-Some.number (request_seen c.args.request) (Err stop) w) c.in-Err-Fault.field-0-is
    c.in-Err-Fault.ensures.puts)
    c.in_ok-say_full-in-Err-Fault.ensures.0
    c.in_ok-say_full-in-Err-Fault.ensures.1

pub returns-in-Err-NoMemory-clause-answers : goal.returns-in-Err-NoMemory-clause-answers
returns-in-Err-NoMemory-clause-answers g c = λ start left has.
    let told = g.L.Link.told c.args.link.now in
    let clean = g.M.Makers.language.clean in
    let v = pass_view c.args.pass.now in
    let w = pass_view c.ask.new.pass in
    ends_unasked clean start v w told told
    c.args.reading.now (request_seen c.args.request) left has c.in-Some.number c.in-Some.ensures.1
    (subst (λ stop. Puts clean v c.in-Some.number (request_seen c.args.request) (Err stop) w) c.in-Err-NoMemory.field-0-is
    c.in-Err-NoMemory.ensures.puts)
    refl
