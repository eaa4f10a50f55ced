use Rattle.fact_maker.proofs.maker.Maker.over.Goals as goal

pub invariant_of-result : goal.invariant_of-result
invariant_of-result c = record { go_on = c.new.ensures _ _ }
