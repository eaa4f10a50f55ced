use Rattle.script_text.proofs.LineLaws.{line_cut, last_line}
use Rattle.script_text.proofs.lines.split_line.Goals as goal

pub returns-in-Some : goal.returns-in-Some
returns-in-Some c = line_cut _ _ _ c.in-Some.ensures

pub returns-else-is_empty : goal.returns-else-is_empty
returns-else-is_empty c = last_line _ c.in_default.ensures c.if-is_empty.ensures
