use Rattle.std.proofs.Common.{◌≡◌, ◌∷◌, ◌++◌, [], take, codes}
use Rattle.dita_doc.specs.ClassValue.{value_of}
use Rattle.map_spec.specs.Pushes.{id_written, pushing_names, without_names}
use Rattle.conref_push.proofs.attributes.attributes_instead.Given as goal

abbrev pub invariant-loop-attribute : goal.invariant-loop-attribute
invariant-loop-attribute l = l.kept ≡ id_written (value_of (codes "id") l.replaced.attributes)
    ++ without_names (codes "id" ∷ []) (without_names pushing_names (take l.attribute-index l.attribute-items))
