-- What closes most claims on what is told over whole calls.
use Rattle.key_layer.proofs.PassingLaws as keys
use Rattle.plan_layer.proofs.CarryLaws.{carries_start, were_allowed_later}
use Rattle.plan_layer.proofs.PassLaws.{passes_start}
use Rattle.readers.proofs.DocumentLaws.{asking}
use Rattle.readers.proofs.FoundedLaws.{founding}
use Rattle.readers.proofs.GrowthLaws.{agrees_before, growing}
use Rattle.readers.proofs.LayerLaws.{carries_same}

pub ruleset calling = (growing, founding, asking, agrees_before, carries_same, keys.passes_same, carries_start, were_allowed_later, passes_start)
