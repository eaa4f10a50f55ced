use Rattle.std.proofs.Common.{◌≡◌, drop, is_some}
use Rattle.dita_doc.specs.ClassValue.{value_of}
use Rattle.conref_pull.proofs.merge.has_name.Given as goal

abbrev pub invariant-loop-own : goal.invariant-loop-own
invariant-loop-own l = is_some (value_of l.name (drop l.own-index l.own-items)) ≡ is_some (value_of l.name l.attributes)
