use Rattle.command_laws.proofs.ModeLaws.{names_mode}
use Rattle.command_laws.proofs.mode_is_named.Goals as goal

pub returns : goal.returns
returns c = names_mode
