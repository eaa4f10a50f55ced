use Rattle.std.proofs.Common.{refl}
use Rattle.command_line.proofs.CommandLaws.{value_given}
use Rattle.command_line.proofs.read.value_in.Goals as goal

pub returns : goal.returns
returns c = value_given c.args.id.now c.args.matches.now _ _ _ c.get_str.ensures refl c.unwrap_or.ensures
