use Rattle.whole_calls.proofs.over_plan.over_plan.Given as goal

abbrev pub ghosts-plan_since : goal.ghosts-plan_since
ghosts-plan_since g a = record { stand = g.K.Reader.stand a.keys.now; told = g.K.Reader.told a.keys.now }
