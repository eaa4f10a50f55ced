use Rattle.std.proofs.Common.{sym, arith, ◌∙◌}
use Rattle.transcript_text.proofs.NumberLaws.{not_plain, no_text, text_is, parsed}
use Rattle.transcript_text.proofs.word.number64.Goals as goal

pub returns-then-not-is_plain : goal.returns-then-not-is_plain
returns-then-not-is_plain c = sym (not_plain 64 _ (omega arith) c.if-not-is_plain.ensures)

pub returns-in_err-text : goal.returns-in_err-text
returns-in_err-text c =
    c.from_residual.ensures
    ∙ sym (no_text _ 64 _ c.from_utf8.result (omega arith)
    (omega arith) c.from_utf8.ensures.cases c.in_err-text.ensures.value)

pub returns : goal.returns
returns c = let is = text_is _ _ _ c.from_utf8.result c.from_utf8.ensures.cases c.in_ok-text.ensures.value in
    let reads = rw is at c.parse.ensures.value.0 in
    c.ok-2.ensures.value ∙ parsed 64 _ _ (omega arith) (omega arith) reads c.if-not-is_plain.ensures
