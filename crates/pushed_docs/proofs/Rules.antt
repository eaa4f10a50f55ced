-- What closes most claims on what a reader tells that hands out documents with their pushes.
use Rattle.readers.proofs.FoundedLaws as founded
use Rattle.readers.proofs.GrowthLaws as growth

pub ruleset telling = (
  growth.growing,
  growth.agrees_before,
  growth.told_answer,
  founded.founding,
)
