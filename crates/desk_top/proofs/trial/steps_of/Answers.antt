use Rattle.std.proofs.Common.{◌∙◌, arith}
use Rattle.script_text.specs.Read.{steps_seen}
use Rattle.desk_top.proofs.TrialLaws.{read_is}
use Rattle.desk_top.proofs.trial.steps_of.Goals as goal

pub returns-in-Ok-clause-steps : goal.returns-in-Ok-clause-steps
returns-in-Ok-clause-steps c = read_is c.args.number c.args.topics c.as_slice.result.now
    (steps_seen c.in-Ok.script.steps) (steps_seen c.in_ok-in_one_session-in-Ok.field-0) (omega (arith, c.requires.few))
    c.requires.many (c.as_slice.ensures ∙ c.in_ok-text.ensures) c.in-Ok.ensures
    c.in_ok-in_one_session-in-Ok.ensures.steps
