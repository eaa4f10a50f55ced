use Rattle.std.proofs.Common.{◌≡◌, ◌++◌, drop}
use Rattle.conref_pull.proofs.merge.Merged.written.Given as goal

abbrev pub invariant-loop-attribute : goal.invariant-loop-attribute
invariant-loop-attribute l = l.attributes ++ drop l.attribute-index l.attribute-items ≡ l.element.attributes
