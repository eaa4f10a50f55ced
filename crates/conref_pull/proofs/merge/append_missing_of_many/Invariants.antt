use Rattle.std.proofs.Common.{◌≡◌, ◌++◌, drop, filter}
use Rattle.conref_pull.specs.Merging.{is_given}
use Rattle.conref_pull.proofs.merge.append_missing_of_many.Given as goal

abbrev pub invariant-loop-attribute : goal.invariant-loop-attribute
invariant-loop-attribute l = l.out ++ filter (is_given l.leaves l.own) (drop l.attribute-index l.attribute-items)
    ≡ l.fn.out ++ filter (is_given l.leaves l.own) l.target.attributes
