use Rattle.std.proofs.Common.{rules}
use Rattle.script_text.proofs.command.read_put_if.Goals as goal

pub returns-clause-edit : goal.returns-clause-edit
returns-clause-edit c = search rules
