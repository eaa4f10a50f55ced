use Rattle.std.proofs.Common.{◌≡◌, take}
use Rattle.map_spec.specs.Pushes.{pushing_names, without_names}
use Rattle.conref_push.proofs.attributes.attributes_beside.Given as goal

abbrev pub invariant-loop-attribute : goal.invariant-loop-attribute
invariant-loop-attribute l = l.kept ≡ without_names pushing_names (take l.attribute-index l.attribute-items)
