use Rattle.transcript_text.proofs.WrittenForm.{name_is_shown, on_ok_too}
use Rattle.row_text.proofs.write.append_front.Goals as goal

pub returns-clause-map : goal.returns-clause-map
returns-clause-map c = on_ok_too c.append-6.result
    (name_is_shown c.args.key.now.map c.as_bytes-3.ensures.name c.as_bytes-3.ensures.utf8)
