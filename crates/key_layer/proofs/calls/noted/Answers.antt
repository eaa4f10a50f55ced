use Rattle.key_layer.proofs.calls.noted.Goals as goal

pub returns-clause-note : goal.returns-clause-note
returns-clause-note c = λ setting. c.in_ok-note.ensures setting
