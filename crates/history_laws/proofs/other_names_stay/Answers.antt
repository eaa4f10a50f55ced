use Rattle.version_store.proofs.FoundLaws.{found_with_same, found_with_other, found_without_same, found_without_other}
use Rattle.history_laws.proofs.other_names_stay.Goals as goal

pub returns-clause-stored : goal.returns-clause-stored
returns-clause-stored c state new = found_with_same new state

pub returns-clause-beside_stored : goal.returns-clause-beside_stored
returns-clause-beside_stored c state new name = found_with_other new state name

pub returns-clause-removed : goal.returns-clause-removed
returns-clause-removed c state name = found_without_same name state

pub returns-clause-beside_removed : goal.returns-clause-beside_removed
returns-clause-beside_removed c state gone name = found_without_other gone state name
