use Rattle.std.proofs.Common.{refl}
use Rattle.transcript_text.proofs.StateLaws.{row_more, row_may_more, may_row_text}
use Rattle.transcript_text.proofs.state.row_text.Goals as goal

pub returns-in_default-clause-complete : goal.returns-in_default-clause-complete
returns-in_default-clause-complete c = λ more may some.
    let one = may_row_text c.args.left _ c.args.line.now more may some in
    c.in_default.ensures one.text one.is one.fits some

pub returns-clause-sound : goal.returns-clause-sound
returns-clause-sound c = λ read has some.
    c.in_ok-with_row.ensures.sound _
    (row_more c.args.entries c.args.rows c.args.opened _ c.args.left _ read c.args.line.now c.in-Some.text.now
    has some refl c.in-Some.ensures.0 c.in-Some.ensures.1 c.in_ok-longer.ensures)

pub returns-clause-complete : goal.returns-clause-complete
returns-clause-complete c =
    λ more may some. c.in_ok-with_row.ensures.complete more
    (rw c.in_ok-longer.ensures (row_may_more c.args.left _ _ c.args.line.now more may some refl))
