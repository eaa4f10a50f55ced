use Rattle.std.proofs.Common.{◌∙◌, ap, refl}
use Rattle.std.proofs.lemmas.Result.{IfOk-weaker}
use Rattle.clap.specs.Walk.{rule_of}
use Rattle.command_line.proofs.CommandLaws.{adds}
use Rattle.command_line.proofs.arguments.with_project.Goals as goal

pub returns : goal.returns
returns c =
    let seed = adds _ _ _ _ _ refl c.in_ok-numbered.ensures (ap (λ arg. arg.global) c.help-seed.ensures ∙ c.number.ensures.here)
    (ap rule_of c.help-seed.ensures ∙ c.number.ensures.rule) in
    IfOk-weaker c.arg-2.result _ _ (λ made added. adds _ _ _ _ _ seed added
    (ap (λ arg. arg.global) c.help-topics.ensures ∙ c.number-2.ensures.here)
    (ap rule_of c.help-topics.ensures ∙ c.number-2.ensures.rule)) c.arg-2.ensures
