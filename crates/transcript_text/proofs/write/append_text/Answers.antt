use Rattle.std.proofs.Common.{◌∙◌}
use Rattle.std.proofs.lemmas.Result.{on_ok_weaker}
use Rattle.transcript_text.proofs.LineLaws.{text_told}
use Rattle.transcript_text.proofs.WrittenForm.{on_ok_too, text_is_shown}
use Rattle.transcript_text.proofs.write.append_text.Goals as goal

pub returns-clause-text : goal.returns-clause-text
returns-clause-text c = on_ok_weaker c.append_lines.result
    (λ told. told ∙ text_told _ _ _ _ c.count_lines.ensures c.in_ok-append_number.ensures.text) c.append_lines.ensures

pub returns-clause-form : goal.returns-clause-form
returns-clause-form c = on_ok_too c.append_lines.result
    (text_is_shown c.args.bytes.now _ c.requires c.count_lines.ensures c.in_ok-append_number.ensures.fits)
