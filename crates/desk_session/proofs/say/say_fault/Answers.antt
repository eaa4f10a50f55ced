use Rattle.std.proofs.Common.{◌≡◌, Err, rules, subst, sym, [], ◌∷◌}
use Rattle.desk_session.proofs.LinkLaws.{said_none}
use Rattle.script_text.specs.Faults.{rejection_line}
use Rattle.desk_session.specs.Saying.{SaysAll}
use Rattle.desk_session.specs.declared.end.SessionEnd.TheVariants as ends
use Rattle.desk_session.proofs.say.say_fault.Goals as goal

pub returns-in_err-message : goal.returns-in_err-message
returns-in_err-message g c =
    let is : c.from_residual.result ≡ Err ends.NoMemory = search rules in
    let told = g.L.Link.told c.args.link.now in
    subst (λ result. SaysAll told told result (rejection_line c.args.fault ∷ [])) (sym is)
    (said_none told (rejection_line c.args.fault) [] ends.NoMemory tt)
