use Rattle.dita_doc.specs.History.{sources}
use Rattle.dita_doc.proofs.NameOrder.{named_as_found}
use Rattle.version_store.proofs.HistoryLaws.{from_sources}
use Rattle.history_laws.proofs.versions_are_places.Goals as goal

pub returns-clause-name : goal.returns-clause-name
returns-clause-name c history n = named_as_found (sources history n)

pub returns-clause-entry : goal.returns-clause-entry
returns-clause-entry c = from_sources
