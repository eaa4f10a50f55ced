use Rattle.std.proofs.Common.{◌∙◌, ap, refl}
use Rattle.std.proofs.lemmas.Result.{IfOk-weaker}
use Rattle.clap.specs.Walk.{rule_of}
use Rattle.command_line.proofs.CommandLaws.{adds}
use Rattle.command_line.proofs.arguments.with_sessions.Goals as goal

pub returns : goal.returns
returns c =
    let port = adds _ _ _ _ _ refl c.in_ok-placed.ensures (ap (λ arg. arg.global) c.help-port.ensures ∙ c.number.ensures.here)
    (ap rule_of c.help-port.ensures ∙ c.number.ensures.rule) in
    IfOk-weaker c.arg-2.result _ _ (λ made added. adds _ _ _ _ _ port added
    (ap (λ arg. arg.global) c.help-connections.ensures ∙ c.number-2.ensures.here)
    (ap rule_of c.help-connections.ensures ∙ c.number-2.ensures.rule)) c.arg-2.ensures
