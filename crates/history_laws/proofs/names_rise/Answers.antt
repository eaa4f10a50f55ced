use Rattle.version_store.proofs.HistoryLaws.{sorted_sources, few_sources}
use Rattle.history_laws.proofs.names_rise.Goals as goal

pub returns-clause-order : goal.returns-clause-order
returns-clause-order c = sorted_sources

pub returns-clause-limit : goal.returns-clause-limit
returns-clause-limit c = few_sources
