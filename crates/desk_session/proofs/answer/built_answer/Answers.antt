use Rattle.std.proofs.Common.{Some, ap, subst}
use Rattle.dita_doc.specs.Seen.{entry_seen, reply_seen}
use Rattle.transcript_text.specs.Transcript.{entry_shown}
use Rattle.transcript_text.specs.Written.{IsTextOfEntry, text_shown}
use Rattle.transcript_text.specs.declared.built.BuiltText.{BuiltText}
use Rattle.desk_session.proofs.TextLaws.{built_text}
use Rattle.desk_session.specs.Asking.{text_of}
use Rattle.desk_session.proofs.answer.built_answer.Goals as goal

pub returns : goal.returns
returns c =
    let entry = c.entry_of-entry.result in
    let place = c.args.built.place in
    let told = subst
    (λ (one : BuiltText). IsTextOfEntry (entry_shown place (entry_seen entry) (Some (text_shown one))) c.in_ok-text.text)
    c.in_ok-shown.ensures.text c.in_ok-text.ensures in
    record {
      text = built_text place c.args.session c.args.number (text_shown (text_of c.args.built.outcome)) (entry_seen entry)
          c.in_ok-text.text (ap reply_seen c.entry_of-entry.ensures.reply) c.entry_of-entry.ensures.session
          c.entry_of-entry.ensures.number told;
      pages = c.in_ok-shown.ensures.pages;
      have = c.in_ok-shown.ensures.have;
    }
