use Rattle.std.proofs.Common.{subst, sym}
use Rattle.transcript_text.specs.Transcript.{IsValShown}
use Rattle.transcript_text.proofs.WrittenForm.{name_is_shown, on_ok_too}
use Rattle.row_text.proofs.write.append_val.Goals as goal

pub returns-in-Some-clause-form : goal.returns-in-Some-clause-form
returns-in-Some-clause-form c = on_ok_too c.append.result (subst IsValShown (sym c.in-Some.is)
    (name_is_shown c.in-Some.val c.as_bytes.ensures.name c.as_bytes.ensures.utf8))
