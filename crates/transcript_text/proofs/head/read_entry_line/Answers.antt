use Rattle.std.proofs.Common.{◌∷◌}
use Rattle.std.specs.Fmt.{decimal}
use Rattle.dita_doc.specs.Bytes.{spaced_parts}
use Rattle.transcript_text.proofs.head.read_entry_line.Goals as goal

pub returns-in_err-place : goal.returns-in_err-place
returns-in_err-place c = rw c.from_residual-in_err-place.ensures (λ place session number reply below is.
    c.in_err-place.ensures place (decimal session ∷ decimal number ∷ spaced_parts reply) is.place_fits
    (cc (is.words, c.in_ok-rest.ensures)))

pub returns-in_err-session : goal.returns-in_err-session
returns-in_err-session c = rw c.from_residual-in_err-session.ensures (λ place session number reply below is.
    c.in_err-session.ensures session (decimal number ∷ spaced_parts reply) is.session_fits
    (cc (is.words, c.in_ok-rest.ensures, c.in_ok-place.ensures.0)))

pub returns-in_err-number : goal.returns-in_err-number
returns-in_err-number c = rw c.from_residual-in_err-number.ensures (λ place session number reply below is.
    c.in_err-number.ensures number (spaced_parts reply) is.number_fits
    (cc (is.words, c.in_ok-rest.ensures, c.in_ok-place.ensures.0, c.in_ok-session.ensures.0)))
