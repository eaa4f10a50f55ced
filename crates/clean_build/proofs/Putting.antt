-- What closes most claims on what is told over the parts of a build.
use Rattle.readers.proofs.GrowthLaws.{agrees_before, growing}

pub ruleset putting = (growing, agrees_before)
