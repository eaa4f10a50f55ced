use Rattle.build_plan.proofs.keyed.keyed_pages.Given as goal

abbrev pub ghosts-pages_since : goal.ghosts-pages_since
ghosts-pages_since g a = record { stand = g.T.Reader.stand a.asker.now; told = g.T.Reader.told a.asker.now }
