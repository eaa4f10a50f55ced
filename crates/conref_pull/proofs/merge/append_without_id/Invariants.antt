use Rattle.std.proofs.Common.{◌≡◌, ◌++◌, filter}
use Rattle.std.specs.Vec.Iter.{into_iter_items}
use Rattle.conref_pull.specs.Merging.{is_no_id}
use Rattle.conref_pull.proofs.merge.append_without_id.Given as goal

abbrev pub invariant-loop-attribute : goal.invariant-loop-attribute
invariant-loop-attribute l = l.out ++ filter is_no_id (into_iter_items l.attribute-iterator)
    ≡ l.fn.out ++ filter is_no_id l.fn.attributes
