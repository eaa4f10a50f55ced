use Rattle.std.proofs.Common.{rules}
use Rattle.conref_push.proofs.attributes.attributes_of.Goals as goal

pub returns-in-Some : goal.returns-in-Some
returns-in-Some c = search rules
