use Rattle.std.proofs.Common.{◌≡◌}
use Rattle.doc_maker.specs.Building as spec
use Rattle.doc_maker.specs.Made as made_spec
use Rattle.doc_maker.proofs.maker.DocMaker.close_all.Given as goal

-- the whole and the declared names are the same all the while
abbrev pub invariant-loop-self : goal.invariant-loop-self
invariant-loop-self l = (spec.whole (made_spec.building l.self) ≡ spec.whole (made_spec.building l.fn.self))
    × (made_spec.declared l.self ≡ made_spec.declared l.fn.self)

abbrev pub decreases-loop-self : goal.decreases-loop-self
decreases-loop-self l = spec.depth (made_spec.building l.self)
