use Rattle.std.proofs.Common.{◌∙◌}
use Rattle.html_tables.proofs.SaidLaws.{not_said, said, too_long}
use Rattle.html_tables.proofs.rows.rows_said.Goals as goal

pub returns-then-not-is_decimal : goal.returns-then-not-is_decimal
returns-then-not-is_decimal c = not_said c.args.value.now c.if-not-is_decimal.ensures

pub returns-in-Ok : goal.returns-in-Ok
returns-in-Ok c =
    c.rows_with.ensures ∙ said c.args.value.now c.if-not-is_decimal.ensures c.in-Ok.more c.in-Ok.ensures.value.0

pub returns-in-Err : goal.returns-in-Err
returns-in-Err c = too_long c.args.value.now c.if-not-is_decimal.ensures c.in-Err.ensures.value.0
