use Rattle.std.proofs.Common.{◌∷◌, [], sym}
use Rattle.std.specs.Fmt.{decimal}
use Rattle.transcript_text.proofs.WordLaws.{none_left}
use Rattle.transcript_text.proofs.head.read_end_line.Goals as goal

pub returns-in_err-made : goal.returns-in_err-made
returns-in_err-made c = rw c.from_residual-in_err-made.ensures (λ entries made dropped is.
    c.in_err-made.ensures made (decimal dropped ∷ []) is.made_fits
    (cc (is.words, c.in_ok-rest.ensures, c.in_ok-entries.ensures.0)))

pub returns-in_err-dropped : goal.returns-in_err-dropped
returns-in_err-dropped c = rw c.from_residual-in_err-dropped.ensures (λ entries made dropped is.
    c.in_err-dropped.ensures dropped [] is.dropped_fits
    (cc (is.words, c.in_ok-rest.ensures, c.in_ok-entries.ensures.0, c.in_ok-made.ensures.0)))

pub returns-then-is_some : goal.returns-then-is_some
returns-then-is_some c = λ entries made dropped is.
    none_left c.in_ok-dropped.rest (sym c.if-is_some.ensures)
    (cc (is.words, c.in_ok-rest.ensures, c.in_ok-entries.ensures.0, c.in_ok-made.ensures.0, c.in_ok-dropped.ensures.0))
