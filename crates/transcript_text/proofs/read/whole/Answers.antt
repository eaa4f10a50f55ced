use Rattle.transcript_text.proofs.read.whole.Goals as goal

pub returns-in-End-clause-refused : goal.returns-in-End-clause-refused
returns-in-End-clause-refused c = tt
