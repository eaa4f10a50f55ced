use Rattle.std.proofs.Common.{◌<◌, ◌^◌, ◌∷◌, [], sym, arith}
use Rattle.std.specs.Fmt.{decimal}
use Rattle.std.proofs.lemmas.Fmt.{decimal_injective}
use Rattle.transcript_text.specs.Transcript.{part_text, part_index, val_text}
use Rattle.transcript_text.proofs.WordLaws.{none_left, seven_words}
use Rattle.transcript_text.proofs.head.read_row_line.Goals as goal

pub returns-in_err-serial : goal.returns-in_err-serial
returns-in_err-serial c = rw c.from_residual-in_err-serial.ensures (λ serial part map val count is.
    c.in_err-serial.ensures serial
    (part_text part ∷ map ∷ val_text val ∷ decimal (part_index part) ∷ decimal count ∷ []) is.serial_fits
    (cc (is.words, c.in_ok-rest.ensures)))

pub returns-in_err-is_page : goal.returns-in_err-is_page
returns-in_err-is_page c = rw c.from_residual-in_err-is_page.ensures (λ serial part map val count is.
    c.in_err-is_page.ensures part (map ∷ val_text val ∷ decimal (part_index part) ∷ decimal count ∷ [])
    (cc (is.words, c.in_ok-rest.ensures, c.in_ok-serial.ensures.0)))

pub returns-in_err-val : goal.returns-in_err-val
returns-in_err-val c = rw c.from_residual-in_err-val.ensures (λ serial part map val count is.
    c.in_err-val.ensures val (decimal (part_index part) ∷ decimal count ∷ []) is.val_named
    (cc (is.words, c.in_ok-rest.ensures, c.in_ok-serial.ensures.0, c.in_ok-is_page.ensures, c.in_ok-map.ensures.0)))

pub returns-in_err-index : goal.returns-in_err-index
returns-in_err-index c = rw c.from_residual-in_err-index.ensures (λ serial part map val count is.
    c.in_err-index.ensures (part_index part) (decimal count ∷ []) is.index_fits
    (cc (
      is.words,
      c.in_ok-rest.ensures,
      c.in_ok-serial.ensures.0,
      c.in_ok-is_page.ensures,
      c.in_ok-map.ensures.0,
      c.in_ok-val.ensures.0,
    )))

pub returns-in_err-count : goal.returns-in_err-count
returns-in_err-count c = rw c.from_residual-in_err-count.ensures (λ serial part map val count is.
    c.in_err-count.ensures count [] is.count_fits
    (cc (
      is.words,
      c.in_ok-rest.ensures,
      c.in_ok-serial.ensures.0,
      c.in_ok-is_page.ensures,
      c.in_ok-map.ensures.0,
      c.in_ok-val.ensures.0,
      c.in_ok-index.ensures.0,
    )))

pub returns-then-is_some : goal.returns-then-is_some
returns-then-is_some c = λ serial part map val count is.
    let told = seven_words _ _ _ _ _ _ _ _ _ _ _ _ _ _ _ _ _ _ _ _ _ _ c.in_ok-rest.ensures c.in_ok-serial.ensures.0
    c.in_ok-is_page.ensures
    c.in_ok-map.ensures.0 c.in_ok-val.ensures.0 c.in_ok-index.ensures.0 c.in_ok-count.ensures.0 is.words in
    none_left c.in_ok-count.rest (sym c.if-is_some.ensures) told.2

pub returns-in_err-part : goal.returns-in_err-part
returns-in_err-part c = rw c.from_residual-in_err-part.ensures (λ serial part map val count is.
    let told = seven_words _ _ _ _ _ _ _ _ _ _ _ _ _ _ _ _ _ _ _ _ _ _ c.in_ok-rest.ensures c.in_ok-serial.ensures.0
    c.in_ok-is_page.ensures
    c.in_ok-map.ensures.0 c.in_ok-val.ensures.0 c.in_ok-index.ensures.0 c.in_ok-count.ensures.0 is.words in
    let less : c.in_ok-index.index < 2 ^ 64 = omega (arith, c.in_ok-index.ensures.1) in
    let small : part_index part < 2 ^ 64 = omega (arith, is.index_fits) in
    c.in_err-part.ensures part told.0 (decimal_injective c.in_ok-index.index (part_index part) less small told.1))
