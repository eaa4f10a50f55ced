use Rattle.command_laws.proofs.WordLaws.{no_fault}
use Rattle.command_laws.proofs.read_without_fault.Goals as goal

pub returns : goal.returns
returns c = no_fault
