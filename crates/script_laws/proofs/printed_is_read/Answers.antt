use Rattle.script_laws.proofs.PrintedLaws.{printed_read}
use Rattle.script_laws.proofs.printed_is_read.Goals as goal

pub returns : goal.returns
returns c = printed_read
