use Rattle.std.proofs.Common.{◌∙◌, ap}
use Rattle.std.proofs.lemmas.Result.{IfOk-weaker}
use Rattle.clap.specs.Walk.{rule_of}
use Rattle.command_line.proofs.CommandLaws.{adds, adds_rule, adds_two}
use Rattle.command_line.proofs.arguments.command.Goals as goal

pub returns : goal.returns
returns c =
    let names = c.mode.ensures.rule in
    let mode = adds _ _ _ _ _ c.named.ensures c.in_ok-with_mode.ensures c.mode.ensures.here names.2 in
    let workers = adds _ _ _ _ _ mode c.in_ok-start.ensures (ap (λ arg. arg.global) c.help-workers.ensures ∙ c.number.ensures.here)
    (ap rule_of c.help-workers.ensures ∙ c.number.ensures.rule) in
    let project = adds_two _ _ _ _ _ workers c.in_ok-made.ensures in
    let sessions = adds_two _ _ _ _ _ project c.in_ok-served.ensures in
    IfOk-weaker c.with_folder.result _ _ (λ made added. (
      names.0,
      names.1,
      adds_rule _ _ _ _ sessions added,
    )) c.with_folder.ensures
