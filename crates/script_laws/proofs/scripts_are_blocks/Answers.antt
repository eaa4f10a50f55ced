use Rattle.script_laws.proofs.WholeLaws.{script_said, script_read}
use Rattle.script_laws.proofs.scripts_are_blocks.Goals as goal

pub returns : goal.returns
returns c = record { blocks = script_said; read = script_read }
