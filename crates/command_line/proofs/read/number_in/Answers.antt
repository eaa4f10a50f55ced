use Rattle.std.proofs.Common.{◌∙◌}
use Rattle.command_line.proofs.NumberLaws.{not_said, number_said}
use Rattle.command_line.proofs.read.number_in.Goals as goal

pub returns-in-Ok-clause-number : goal.returns-in-Ok-clause-number
returns-in-Ok-clause-number c =
    c.within.ensures.number
    ∙ number_said c.args.least c.args.most c.args.text.now c.in-Ok.number c.in-Ok.ensures.value.0

pub returns-in-Err-clause-number : goal.returns-in-Err-clause-number
returns-in-Err-clause-number c = not_said c.args.least c.args.most c.args.text.now c.in-Err.ensures.value.0
