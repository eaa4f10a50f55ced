-- What closes the claims of a layer on what the reader below was told, as far as no answer has their name.
use Rattle.readers.proofs.GrowthLaws as growth

pub ruleset noting = (
  growth.growing,
  growth.agrees_before,
)
