use Rattle.transcript_text.proofs.StateLaws.{row_closed}
use Rattle.transcript_text.proofs.state.with_row.Goals as goal

pub returns-in_ok-push-clause-sound : goal.returns-in_ok-push-clause-sound
returns-in_ok-push-clause-sound c =
    λ read has. row_closed c.args.entries c.args.rows _ c.args.opened c.args.left read has c.if-left-eq0.true
    c.in_ok-push.ensures
