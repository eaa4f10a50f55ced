use Rattle.fact_maker.proofs.findings.Findings.new.Goals as goal

pub returns : goal.returns
returns c = λ world documents. record { cache = c.new.ensures world documents; rules = c.new-2.ensures world }
