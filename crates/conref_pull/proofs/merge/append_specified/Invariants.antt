use Rattle.std.proofs.Common.{◌≡◌, ◌++◌, drop}
use Rattle.conref_spec.specs.Content.{specified}
use Rattle.conref_pull.proofs.merge.append_specified.Given as goal

abbrev pub invariant-loop-attribute : goal.invariant-loop-attribute
invariant-loop-attribute l = l.out ++ specified (drop l.attribute-index l.attribute-items)
    ≡ l.fn.out ++ specified l.element.attributes
