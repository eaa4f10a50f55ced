use Rattle.std.proofs.lemmas.Result.{on_ok_weaker}
use Rattle.dita_doc.specs.Seen.{read_seen}
use Rattle.transcript_text.proofs.WrittenForm.{name_is_shown, name_line_is_shown}
use Rattle.transcript_text.proofs.write.append_name.Goals as goal

pub returns-clause-form : goal.returns-clause-form
returns-clause-form c =
    let name = name_is_shown c.args.read.now.name c.as_bytes.ensures.name c.as_bytes.ensures.utf8 in
    on_ok_weaker _ (name_line_is_shown (read_seen c.args.read.now) name) c.append_number.ensures.fits
