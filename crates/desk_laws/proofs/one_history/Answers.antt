use Rattle.desk_laws.proofs.HistoryLaws.{one_history}
use Rattle.desk_laws.proofs.one_history.Goals as goal

pub returns : goal.returns
returns c = one_history
