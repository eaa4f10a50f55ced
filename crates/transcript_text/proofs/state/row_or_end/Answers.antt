use Rattle.std.proofs.Common.{◌≤◌, ◌<◌, arith}
use Rattle.transcript_text.proofs.StateLaws.{row_begins, end_comes, row_or_end_comes, row_opened, all_ended}
use Rattle.transcript_text.proofs.state.row_or_end.Goals as goal

pub returns-then-row-last-clause-complete : goal.returns-then-row-last-clause-complete
returns-then-row-last-clause-complete c = λ more may.
    let begins = row_begins c.args.last c.in-Some.row.serial c.in-Some.row.count c.args.line.now _ c.in-Some.ensures.0
    _ more may c.in-Some.ensures.2 in
    let rises : c.args.last ≤ c.in-Some.row.serial = begins.0 in
    let falls : c.in-Some.row.serial < c.args.last = c.if-row-last.true in
    omega arith

pub returns-in_ok-with_row-in-Some-clause-sound : goal.returns-in_ok-with_row-in-Some-clause-sound
returns-in_ok-with_row-in-Some-clause-sound c = λ read has.
    c.in_ok-with_row-in-Some.ensures.sound _
    (row_opened c.args.entries c.args.rows _ c.args.last c.in-Some.row.serial c.in-Some.row.count c.args.line.now _
    c.in-Some.ensures.0 _ c.in-Some.row.part read has
    c.if-row-last.false c.in-Some.ensures.1 c.in-Some.ensures.2 c.in_ok-opened-in-Some.ensures)

pub returns-in_ok-with_row-in-Some-clause-complete : goal.returns-in_ok-with_row-in-Some-clause-complete
returns-in_ok-with_row-in-Some-clause-complete c = λ more may.
    let begins = row_begins c.args.last c.in-Some.row.serial c.in-Some.row.count c.args.line.now _ c.in-Some.ensures.0
    _ more may c.in-Some.ensures.2 in
    c.in_ok-with_row-in-Some.ensures.complete more (rw c.in_ok-opened-in-Some.ensures begins.1)

pub returns-in-Some-read_end_line-clause-sound : goal.returns-in-Some-read_end_line-clause-sound
returns-in-Some-read_end_line-clause-sound c = λ read has.
    all_ended c.args.entries c.args.rows c.args.last _ _ _ c.args.line.now read has c.in-Some-read_end_line.ensures

pub returns-in-Some-read_end_line-clause-complete : goal.returns-in-Some-read_end_line-clause-complete
returns-in-Some-read_end_line-clause-complete c =
    λ more may. end_comes c.args.last _ _ _ c.args.line.now more may c.in-Some-read_end_line.ensures

pub returns-in-None-read_end_line-clause-complete : goal.returns-in-None-read_end_line-clause-complete
returns-in-None-read_end_line-clause-complete c =
    λ more may. row_or_end_comes c.args.last c.args.line.now more may c.in-None.ensures c.in-None-read_end_line.ensures
