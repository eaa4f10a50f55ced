use Rattle.std.proofs.Common.{◌≡◌, take}
use Rattle.plan_nodes.proofs.copies.copy_affixes.Given as goal

abbrev pub invariant-loop-affix : goal.invariant-loop-affix
invariant-loop-affix l = l.copies ≡ take l.affix-index l.affixes
