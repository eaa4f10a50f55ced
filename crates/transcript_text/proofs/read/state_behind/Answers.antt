use Rattle.transcript_text.proofs.read.state_behind.Goals as goal

pub returns-in-None-clause-named : goal.returns-in-None-clause-named
returns-in-None-clause-named c = c.bad_at.ensures
