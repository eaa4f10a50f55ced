use Rattle.whole_calls.proofs.over_reader.over_reader.Given as goal

abbrev pub ghosts-reader_since : goal.ghosts-reader_since
ghosts-reader_since g a = record { stand = g.R.Reader.stand a.reader.now; told = g.R.Reader.told a.reader.now }
