use Rattle.std.proofs.lemmas.Result.{on_ok_weaker}
use Rattle.transcript_text.specs.Written.{page_shown}
use Rattle.transcript_text.specs.declared.built.PageMark.TheVariants as marks
use Rattle.transcript_text.proofs.WrittenForm.{name_is_shown, page_is_shown}
use Rattle.transcript_text.proofs.write.append_page.Goals as goal

pub returns-in-Bytes-clause-form : goal.returns-in-Bytes-clause-form
returns-in-Bytes-clause-form c =
    let name = name_is_shown c.args.name.now c.as_bytes.ensures.name c.as_bytes.ensures.utf8 in
    let page = page_shown (c.args.name.now, marks.Bytes c.in-Bytes.bytes) in
    rw c.in-Bytes.is (on_ok_weaker _ (page_is_shown page name) c.append_number.ensures.fits)

pub returns-in-Row-clause-form : goal.returns-in-Row-clause-form
returns-in-Row-clause-form c =
    let name = name_is_shown c.args.name.now c.as_bytes.ensures.name c.as_bytes.ensures.utf8 in
    let page = page_shown (c.args.name.now, marks.Row c.in-Row.serial) in
    rw c.in-Row.is (on_ok_weaker _ (page_is_shown page name) c.append_number-in-Row.ensures.fits)
