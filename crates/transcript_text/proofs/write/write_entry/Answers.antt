use Rattle.dita_doc.specs.Seen.{entry_seen}
use Rattle.transcript_text.specs.Written.{text_shown}
use Rattle.transcript_text.proofs.EntryLaws.{built_written, reply_written}
use Rattle.transcript_text.proofs.write.write_entry.Goals as goal
use Rattle.transcript_text.proofs.write.write_entry.Goals.{in-Some+in_ok-append_built-in-Some, in-None+in_ok-append_reply-in-None}

pub returns : goal.returns
returns c =
    let entry = entry_seen c.args.entry.now in
    let numbers = rw c.new-out.ensures at c.in_ok-append_numbers.ensures.text in
    let fits = c.in_ok-append_numbers.ensures.fits in
    elim c.match-built.branch [
      | in-Some+in_ok-append_built-in-Some w ↦
          let begun = rw w.in-Some.is at c.requires.built in
          let put = w.in_ok-append_built-in-Some.ensures in
          rw (w.in-Some.is, w.out-is)
          (built_written c.args.place entry _ _ numbers fits (text_shown w.in-Some.built.now) begun put.text put.form)
      | in-None+in_ok-append_reply-in-None w ↦
          let other = rw w.in-None.is at c.requires.built in
          let put = w.in_ok-append_reply-in-None.ensures in
          rw (w.in-None.is, w.out-is)
          (reply_written c.args.place entry _ _ numbers fits other put.text put.form)
    ]
