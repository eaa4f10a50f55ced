use Rattle.lock_examples.specs.LineLaws.{compared}
use Rattle.lock_examples.proofs.line_language.is_plan_over.Goals as goal

pub returns-in_ok-names_of-in-Ok : goal.returns-in_ok-names_of-in-Ok
returns-in_ok-names_of-in-Ok c =
    compared c.args.sources.now c.args.value.now c.in-Ok.plan c.in_ok-names_of-in-Ok.field-0
    c.eq-in-Ok.result c.in-Ok.is c.in_ok-names_of-in-Ok.ensures c.eq-in-Ok.ensures
