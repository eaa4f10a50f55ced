use Rattle.command_line.proofs.CommandLaws.{mode_if_read}
use Rattle.command_line.proofs.read.mode.Goals as goal

pub returns-in-Some : goal.returns-in-Some
returns-in-Some c =
    mode_if_read _ _ _ _ c.in-Some.is c.in_ok-matches.ensures.read c.in_ok-matches.ensures.rows c.mode_in.ensures
