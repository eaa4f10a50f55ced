use Rattle.std.proofs.Common.{◌≡◌, [], ◌∷◌, Err, map, rules, subst, sym}
use Rattle.desk_session.proofs.LinkLaws.{all_then, front_longer}
use Rattle.desk_session.specs.Asking.{messages_in, row_message}
use Rattle.desk_session.specs.Saying.{Says, SaysAll, SaysFront}
use Rattle.desk_session.proofs.say.say_answer.Goals as goal

pub returns-in_err-say : goal.returns-in_err-say
returns-in_err-say g c =
    let old = g.L.Link.told c.args.link.now in
    let new = g.L.Link.told c.say.new.link in
    let rows = map row_message c.args.answer.now.pages in
    let ended = c.in_err-say.field-0.0 in
    let is : c.from_residual.result ≡ Err ended = search rules in
    subst (λ result. SaysAll old new result (messages_in c.args.answer.now)) (sym is)
    (subst (λ message. SaysFront old new ended (message ∷ rows)) c.as_slice.ensures
    (front_longer old new ended (c.as_slice.result.now ∷ []) rows c.in_err-say.ensures))

pub returns : goal.returns
returns g c =
    let old = g.L.Link.told c.args.link.now in
    let between = g.L.Link.told c.say.new.link in
    let new = g.L.Link.told c.say_rows.new.link in
    let answer = c.args.answer.now in
    all_then old between new c.say_rows.result (answer.text ∷ []) (map row_message answer.pages)
    (subst (λ message. Says old between (message ∷ [])) c.as_slice.ensures c.in_ok-say.ensures.0)
    c.in_ok-say.ensures.1
    (subst (λ pages. SaysAll between new c.say_rows.result (map row_message pages)) c.as_slice-2.ensures c.say_rows.ensures)
