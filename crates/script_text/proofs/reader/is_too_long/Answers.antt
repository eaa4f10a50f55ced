use Rattle.script_text.proofs.LineLaws.{no_line}
use Rattle.script_text.proofs.reader.is_too_long.Goals as goal

pub returns-then-is_cut : goal.returns-then-is_cut
returns-then-is_cut c = rw (c.if-is_cut.true, c.is_empty.ensures) (no_line _)
