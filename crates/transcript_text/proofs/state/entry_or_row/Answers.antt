use Rattle.transcript_text.proofs.StateLaws.{entry_begins, no_entry, rows_none}
use Rattle.transcript_text.proofs.Utf8Laws.{reply_utf8}
use Rattle.transcript_text.proofs.state.entry_or_row.Goals as goal

pub open_entry-requires : goal.open_entry-requires
open_entry-requires c = reply_utf8 c.in-Some.head.reply.now c.in-Some.head.below c.in-Some.ensures.said

pub returns-in_ok-with_entry-in-Some-clause-complete : goal.returns-in_ok-with_entry-in-Some-clause-complete
returns-in_ok-with_entry-in-Some-clause-complete c = λ more may.
    c.in_ok-with_entry-in-Some.ensures.complete more
    (rw c.in_ok-opened-in-Some.ensures
    (entry_begins c.args.line.now _ _ _ _ c.in-Some.head.below more may c.in-Some.ensures))

pub returns-in-None-clause-sound : goal.returns-in-None-clause-sound
returns-in-None-clause-sound c = λ read has.
    c.row_or_end.ensures.sound read (rw c.new.ensures (rows_none c.args.entries read has))

pub returns-in-None-clause-complete : goal.returns-in-None-clause-complete
returns-in-None-clause-complete c =
    λ more may. c.row_or_end.ensures.complete more (no_entry c.args.line.now more may c.in-None.ensures)
