use Rattle.command_laws.proofs.WordLaws.{closes}
use Rattle.command_laws.proofs.two_hyphens_close.Goals as goal

pub returns : goal.returns
returns c = closes
