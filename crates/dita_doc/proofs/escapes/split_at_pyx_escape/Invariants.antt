use Rattle.std.proofs.Common.{◌≡◌, take}
use Rattle.std.specs.List.{flat_map}
use Rattle.dita_doc.specs.PyxEscapes.{escaped_byte}
use Rattle.dita_doc.proofs.escapes.split_at_pyx_escape.Given as goal

abbrev pub invariant-loop-at : goal.invariant-loop-at
invariant-loop-at l = flat_map escaped_byte (take l.at l.bytes) ≡ take l.at l.bytes
