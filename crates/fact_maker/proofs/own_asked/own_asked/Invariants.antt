use Rattle.std.proofs.Common.{◌≡◌, ◌++◌, reverse}
use Rattle.std.specs.Vec.Iter.{into_iter_items}
use Rattle.fact_maker.specs.Own as own_spec
use Rattle.readers.specs.Noted as noted_spec
use Rattle.fact_maker.proofs.own_asked.own_asked.Given as goal

abbrev pub invariant-loop-one : goal.invariant-loop-one
invariant-loop-one l =
    (l.list ++ own_spec.own_asked l.fn.scopes (into_iter_items l.one-iterator)
    ≡ own_spec.own_asked l.fn.scopes (noted_spec.answered_of (reverse l.fn.asked)))
    × (l.scopes ≡ l.fn.scopes)
