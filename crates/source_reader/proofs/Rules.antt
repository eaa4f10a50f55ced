-- What closes most claims on what a reader with notes tells.
use Rattle.readers.proofs.DocumentLaws as documents
use Rattle.readers.proofs.LayerLaws as layers

pub ruleset noting = (
  layers.putting,
  layers.keeping,
  documents.fetching,
)
