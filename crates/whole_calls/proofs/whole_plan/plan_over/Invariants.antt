use Rattle.whole_calls.proofs.whole_plan.plan_over.Given as goal

abbrev pub ghosts-plan_since : goal.ghosts-plan_since
ghosts-plan_since g a = record { stand = g.R.Reader.stand a.reader.now; told = g.R.Reader.told a.reader.now }
