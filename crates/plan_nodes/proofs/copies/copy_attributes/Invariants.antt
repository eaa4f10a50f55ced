use Rattle.std.proofs.Common.{◌≡◌, take}
use Rattle.plan_nodes.proofs.copies.copy_attributes.Given as goal

abbrev pub invariant-loop-attribute : goal.invariant-loop-attribute
invariant-loop-attribute l = l.copies ≡ take l.attribute-index l.attributes
