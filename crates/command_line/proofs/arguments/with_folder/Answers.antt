use Rattle.std.proofs.Common.{◌∙◌, ap, refl}
use Rattle.std.proofs.lemmas.Result.{IfOk-weaker}
use Rattle.clap.specs.Walk.{rule_of}
use Rattle.command_line.proofs.CommandLaws.{adds}
use Rattle.command_line.proofs.arguments.with_folder.Goals as goal

pub returns : goal.returns
returns c = IfOk-weaker c.arg.result _ _ (λ made added. adds _ _ _ _ _ refl added
    (ap (λ arg. arg.global) c.help-out.ensures ∙ c.option.ensures.here)
    (ap rule_of c.help-out.ensures ∙ c.option.ensures.rule)) c.arg.ensures
