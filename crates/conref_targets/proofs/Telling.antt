-- What closes most claims on what is told.
use Rattle.readers.proofs.DocumentLaws.{asking}
use Rattle.readers.proofs.FoundedLaws.{document_among, founding}
use Rattle.readers.proofs.GrowthLaws.{growing}

pub ruleset telling = (growing, founding, asking, document_among)
