use Rattle.std.proofs.Common.{rules}
use Rattle.script_text.proofs.machine.ScriptMachine.is_within.Goals as goal

pub returns : goal.returns
returns c = search rules
