use Rattle.readers.proofs.DocumentLaws.{homes_asked}
use Rattle.readers.proofs.FoundedLaws.{homes_founded}
use Rattle.attr_cascade.proofs.values.cascade.Goals as goal

pub returns-clause-founded : goal.returns-clause-founded
returns-clause-founded g c = homes_founded _ _ _ _ c.as_slice.ensures c.cascaded.ensures.founded

pub returns-clause-asks : goal.returns-clause-asks
returns-clause-asks g c = homes_asked _ _ _ _ c.as_slice.ensures c.cascaded.ensures.asks
