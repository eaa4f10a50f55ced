use Rattle.std.proofs.Common.{◌≡◌, ◌∙◌, Err, rules, subst, sym, [], ◌∷◌}
use Rattle.desk_session.proofs.LinkLaws.{said_none}
use Rattle.desk_session.proofs.RowLaws.{message_is}
use Rattle.desk_session.specs.Asking.{row_message}
use Rattle.desk_session.specs.Saying.{SaysAll}
use Rattle.desk_session.specs.declared.end.SessionEnd.TheVariants as ends
use Rattle.desk_session.proofs.say.say_row.Goals as goal

pub returns-in_err-text : goal.returns-in_err-text
returns-in_err-text g c =
    let is : c.from_residual.result ≡ Err ends.NoMemory = search rules in
    let told = g.L.Link.told c.args.link.now in
    subst (λ result. SaysAll told told result (row_message c.args.page.now ∷ [])) (sym is)
    (said_none told (row_message c.args.page.now) [] ends.NoMemory tt)

pub returns : goal.returns
returns g c = subst
    (λ message. SaysAll (g.L.Link.told c.args.link.now) (g.L.Link.told c.say.new.link) c.say.result (message ∷ []))
    (c.as_slice.ensures ∙ message_is c.args.page.now c.in_ok-text.text c.requires c.in_ok-text.ensures.text) c.say.ensures
