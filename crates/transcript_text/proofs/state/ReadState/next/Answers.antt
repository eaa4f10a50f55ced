use Rattle.transcript_text.proofs.state.ReadState.next.Goals as goal

pub returns-in-Entry-clause-sound : goal.returns-in-Entry-clause-sound
returns-in-Entry-clause-sound c =
    λ read has. let open_has = rw c.in-Entry.is at has in c.entry_text.ensures.sound read open_has.1 open_has.0

pub returns-in-Row-clause-sound : goal.returns-in-Row-clause-sound
returns-in-Row-clause-sound c =
    λ read has. let open_has = rw c.in-Row.is at has in c.row_text.ensures.sound read open_has.1 open_has.0
