use Rattle.faithful_laws.proofs.StoredLaws.{tells_one}
use Rattle.faithful_laws.proofs.one_history.Goals as goal

pub returns : goal.returns
returns c = tells_one
