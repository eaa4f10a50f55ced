use Rattle.std.proofs.Common.{rules}
use Rattle.script_text.proofs.outside.are_all.Goals as goal

pub returns : goal.returns
returns c = search rules
