use Rattle.std.proofs.Common.{sym}
use Rattle.std.proofs.lemmas.Bool.{eqb-true}
use Rattle.std.proofs.lemmas.Result.{err_from_is_err_and}
use Rattle.transcript_text.proofs.LineLaws.{some_left}
use Rattle.transcript_text.proofs.ReadLaws.{line_read, line_named, rest_refused, named, given_read, given_refused}
use Rattle.transcript_text.proofs.read.read_transcript.Goals as goal

pub returns-in_err-state-clause-refused : goal.returns-in_err-state-clause-refused
returns-in_err-state-clause-refused c =
    let stop = err_from_is_err_and c.from_residual.result c.from_residual.ensures.1 in
    rw (stop.1, stop.2)
    (line_named c.in_err-state.field-0.0 c.loop-line.state c.loop-line.number _ _ _ _ c.loop-line.invariant c.in-Some.ensures
    c.in_err-state.ensures.named c.in_err-state.ensures.refused)

pub loop-line-preserved : goal.loop-line-preserved
loop-line-preserved c =
    line_read c.loop-line.state c.in_ok-state.state c.loop-line.number _ _ c.in-Some.line.now _ c.loop-line.invariant
    c.in-Some.ensures c.in_ok-state.ensures.sound c.in_ok-state.ensures.complete

pub returns-then-not-is_empty-clause-refused : goal.returns-then-not-is_empty-clause-refused
returns-then-not-is_empty-clause-refused c =
    named _ _ _ c.bad_at.ensures
    (rest_refused c.loop-line.state c.loop-line.number _ _ c.loop-line.invariant c.in_default.ensures
    (some_left _ c.if-not-is_empty.ensures))

pub returns-clause-read : goal.returns-clause-read
returns-clause-read c =
    given_read c.whole.result c.loop-line.state c.loop-line.number _ _ c.loop-line.invariant
    (eqb-true _ _ (sym c.if-not-is_empty.ensures)) c.whole.ensures.read

pub returns-clause-refused : goal.returns-clause-refused
returns-clause-refused c =
    given_refused c.whole.result c.loop-line.state c.loop-line.number _ _ c.loop-line.invariant
    (eqb-true _ _ (sym c.if-not-is_empty.ensures)) c.whole.ensures.refused c.whole.ensures.named
