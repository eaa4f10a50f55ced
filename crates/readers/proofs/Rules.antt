-- What closes most claims on what is told.
use Rattle.readers.proofs.DocumentLaws.{asking}
use Rattle.readers.proofs.FoundedLaws.{founding}
use Rattle.readers.proofs.GrowthLaws.{growing}
use Rattle.readers.proofs.FetchLaws as fetches
use Rattle.readers.proofs.FoundedLaws as founded
use Rattle.readers.proofs.GrowthLaws as growth
use Rattle.readers.proofs.LayerLaws as layers

-- of a call that asks about the documents of a plan
pub ruleset walking = (growing, founding, asking)

-- of a layer over a reader
pub ruleset noting = (
  layers.putting,
  growth.growing,
  growth.agrees_before,
  growth.told_answer,
  layers.keeping,
  founded.founding,
  fetches.settling,
)
