-- What closes most claims of a call that asks about the documents of a plan.
use Rattle.std.proofs.Common.{[]}
use Rattle.readers.proofs.DocumentLaws.{asking}
use Rattle.readers.proofs.FoundedLaws.{document_among, founding}
use Rattle.readers.proofs.GrowthLaws.{growing}
use Rattle.readers.proofs.OnlyLaws.{telling}

pub ruleset walking = (growing, founding, asking, telling, document_among)
