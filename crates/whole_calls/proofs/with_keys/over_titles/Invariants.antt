use Rattle.whole_calls.proofs.with_keys.over_titles.Given as goal

abbrev pub ghosts-keys_since : goal.ghosts-keys_since
ghosts-keys_since g a = record { stand = g.T.Reader.stand a.titles.now; told = g.T.Reader.told a.titles.now }
