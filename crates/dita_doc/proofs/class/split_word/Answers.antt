use Rattle.std.proofs.Common.{rules, tests}
use Rattle.std.proofs.lemmas.Iterator.{YieldsList-from_slice}
use Rattle.std.proofs.lemmas.Iterator.Search.{position_from_yields_List}
use Rattle.dita_doc.specs.PlainText.{is_blank_byte}
use Rattle.dita_doc.proofs.ClassLaws.{no_first, first_at, end_of}
use Rattle.dita_doc.proofs.class.split_word.Goals as goal

pub returns-then-is_empty : goal.returns-then-is_empty
returns-then-is_empty c = no_first c.args.text.now c.without_blanks-text.result.now c.without_blanks-text.ensures
    c.if-is_empty.ensures

pub returns : goal.returns
returns c =
    let found = position_from_yields_List is_blank_byte _ _ c.position.result c.position.ensures.ran
    (YieldsList-from_slice _ c.iter.ensures.rest) (λ x b q k. search (rules, tests)) in
    let end = end_of c.without_blanks-text.result.now c.position.result found in
    rw (c.split_at.ensures.front, c.split_at.ensures.back, c.unwrap_or-end.ensures, end)
    (first_at c.args.text.now c.without_blanks-text.result.now c.without_blanks-text.ensures c.if-is_empty.ensures)
