use Rattle.std.proofs.Common.{[]}
use Rattle.version_store.proofs.HistoryLaws.{sources_prefix, legal_take}
use Rattle.history_laws.proofs.prefixes_stay.Goals as goal

pub returns-clause-stored : goal.returns-clause-stored
returns-clause-stored c = sources_prefix

pub returns-clause-legal : goal.returns-clause-legal
returns-clause-legal c history n legal = legal_take [] 0 history n legal
