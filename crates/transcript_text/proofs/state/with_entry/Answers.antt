use Rattle.transcript_text.proofs.StateLaws.{entry_closed}
use Rattle.transcript_text.proofs.state.with_entry.Goals as goal

pub returns-in_ok-push-clause-sound : goal.returns-in_ok-push-clause-sound
returns-in_ok-push-clause-sound c = λ read has.
    let whole = rw c.len.ensures.length at c.if-is_whole.ensures in
    entry_closed c.args.entries _ c.args.opened c.args.below read has whole c.in_ok-push.ensures
