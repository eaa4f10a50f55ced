-- What closes most claims on what is told.
use Rattle.readers.proofs.DocumentLaws.{asking}
use Rattle.readers.proofs.FoundedLaws.{founding}
use Rattle.readers.proofs.GrowthLaws.{agrees_before, growing, told_answer}
use Rattle.readers.proofs.LayerLaws.{carries_same}
use Rattle.key_layer.proofs.PassingLaws.{passes_same}

pub ruleset planning = (growing, founding, asking, agrees_before, told_answer, carries_same, passes_same)
