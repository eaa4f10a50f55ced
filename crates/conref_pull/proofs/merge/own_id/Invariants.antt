use Rattle.std.proofs.Common.{◌≡◌, drop}
use Rattle.conref_pull.specs.Merging.{own_id}
use Rattle.conref_pull.proofs.merge.own_id.Given as goal

abbrev pub invariant-loop-attribute : goal.invariant-loop-attribute
invariant-loop-attribute l = own_id (drop l.attribute-index l.attribute-items) ≡ own_id l.element.attributes
