use Rattle.std.proofs.Common.{◌≡◌, ◌∙◌, Err, inr, rules, subst, sym}
use Rattle.std.specs.Option.{option_copied}
use Rattle.dita_doc.specs.Request.{Build}
use Rattle.dita_doc.specs.declared.stop.Stop.TheVariants as stops
use Rattle.desk_lock.specs.Meaning.{meant_by}
use Rattle.desk_lock.specs.Tokens.{pass_view}
use Rattle.desk_work.specs.Build.{order_of}
use Rattle.desk_session.proofs.AskLaws.{build_stop, gives_stands, puts_build, stands_alone}
use Rattle.desk_session.specs.Asking.{Puts, TellsBuilt}
use Rattle.desk_session.proofs.ask.ask_build.Goals as goal

pub returns-clause-puts : goal.returns-clause-puts
returns-clause-puts g c =
    let means = meant_by g.P.Parts.plan_agrees g.P.Parts.own_agrees g.P.Parts.is_sound in
    let order = order_of c.args.number c.args.map.now (option_copied c.args.val) in
    let built = c.in_ok-built.built in
    puts_build means g.M.Makers.language (pass_view c.args.pass.now) order built (pass_view c.build_alone.new.pass)
    c.in_ok-built_answer.field-0 c.requires.pages c.in_ok-built.ensures.builds
    (subst (λ session. TellsBuilt built.place session c.args.number built.outcome c.in_ok-built_answer.field-0)
    (c.session-session.ensures ∙ c.requires.pass.session) c.in_ok-built_answer.ensures)

pub returns-in_err-built-clause-puts : goal.returns-in_err-built-clause-puts
returns-in_err-built-clause-puts g c =
    let means = meant_by g.P.Parts.plan_agrees g.P.Parts.own_agrees g.P.Parts.is_sound in
    let order = order_of c.args.number c.args.map.now (option_copied c.args.val) in
    let v = pass_view c.args.pass.now in
    let w = pass_view c.build_alone.new.pass in
    let stop = c.in_err-built.field-0.0 in
    let is : c.from_residual.result ≡ Err stop = search rules in
    subst (λ result. Puts g.M.Makers.language.clean v c.args.number (Build order.root order.val) result w) (sym is)
    (build_stop means g.M.Makers.language v w order stop c.in_err-built.ensures.builds)

pub returns-in_err-built_answer-clause-puts : goal.returns-in_err-built_answer-clause-puts
returns-in_err-built_answer-clause-puts g c =
    let means = meant_by g.P.Parts.plan_agrees g.P.Parts.own_agrees g.P.Parts.is_sound in
    let order = order_of c.args.number c.args.map.now (option_copied c.args.val) in
    let v = pass_view c.args.pass.now in
    let w = pass_view c.build_alone.new.pass in
    let clean = g.M.Makers.language.clean in
    let is : c.from_residual-in_err-built_answer.result ≡ Err stops.NoMemory = search rules in
    subst (λ result. Puts clean v c.args.number (Build order.root order.val) result w) (sym is)
    (inr (stands_alone clean v order w
    (gives_stands means g.M.Makers.language v order c.in_ok-built.built w c.in_ok-built.ensures.builds)))
