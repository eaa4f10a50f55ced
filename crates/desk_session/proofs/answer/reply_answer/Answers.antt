use Rattle.std.proofs.Common.{ap}
use Rattle.dita_doc.specs.Seen.{entry_seen, reply_seen}
use Rattle.desk_session.proofs.TextLaws.{tells_reply}
use Rattle.desk_session.proofs.answer.reply_answer.Goals as goal

pub returns : goal.returns
returns c = tells_reply c.args.place c.args.session c.args.number (reply_seen c.args.reply) (entry_seen c.entry_of-entry.result)
    c.in_ok-text.text c.new-pages.result (ap reply_seen c.entry_of-entry.ensures.reply) c.entry_of-entry.ensures.session
    c.entry_of-entry.ensures.number c.in_ok-text.ensures c.new-pages.ensures
