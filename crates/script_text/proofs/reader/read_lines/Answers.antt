use Rattle.std.proofs.Common.{◌≡◌, ◌∷◌, [], ◌&&◌, Option, Some, None, true, false, is_some, refl, arith, length-append, append-nil}
use Rattle.std.proofs.lemmas.List.{map-append}
use Rattle.std.proofs.lemmas.List.Elements.{All-push}
use Rattle.dita_doc.specs.Lines.{lines_of}
use Rattle.script_text.specs.Facts.{IsOwnStep}
use Rattle.script_text.specs.Machine.{pending_seen, turned_seen}
use Rattle.script_text.specs.declared.turn.Begun.{Begun}
use Rattle.script_text.specs.Read.{step_seen, steps_seen}
use Rattle.script_text.specs.Script.{is_no_line, script_line}
use Rattle.script_text.proofs.StepLaws.{line_read, line_long, line_stopped, end_within, end_outside}
use Rattle.script_text.proofs.reader.read_lines.Goals as goal

pub loop-line-preserved : goal.loop-line-preserved
loop-line-preserved c =
    let step = c.in-Ok-Some.step in
    let last : false ≡ (c.args.is_cut && is_no_line (lines_of c.in-Some.more.now)) = cc in
    let turned = rw (c.in-Ok-Some.field-0-is, c.len.ensures.length) at c.in-Ok-Some.ensures.turn in
    let own = rw c.in-Ok-Some.field-0-is at c.in-Ok-Some.ensures.own in
    let before = pending_seen c.loop-line.machine.begun in
    let next = turned_seen c.line.new.self.begun (Some step) in
    let read = line_read script_line c.args.is_cut c.loop-line.number _ before c.in-Some.line.now _ _
    (steps_seen c.loop-line.steps) _ next c.loop-line.invariant.read c.in-Some.ensures.lines last turned in
    let seen = map-append step_seen c.loop-line.steps (step ∷ []) in
    let origins = All-push IsOwnStep c.loop-line.steps step c.loop-line.invariant.origins own in
    record {
      read = rw (c.in_ok-push-in-Ok-Some.ensures, seen, length-append c.loop-line.steps (step ∷ [])) read;
      origins = rw c.in_ok-push-in-Ok-Some.ensures origins;
      within = omega (arith, c.in-Some.ensures.shorter);
    }

pub loop-line-preserved-in-Ok-None : goal.loop-line-preserved-in-Ok-None
loop-line-preserved-in-Ok-None c =
    let last : false ≡ (c.args.is_cut && is_no_line (lines_of c.in-Some.more.now)) = cc in
    let turned = rw (c.in-Ok-None.field-0-is, c.len.ensures.length) at c.in-Ok-None.ensures.turn in
    let before = pending_seen c.loop-line.machine.begun in
    let next = turned_seen c.line.new.self.begun None in
    let read = line_read script_line c.args.is_cut c.loop-line.number _ before c.in-Some.line.now _ _
    (steps_seen c.loop-line.steps) _ next c.loop-line.invariant.read c.in-Some.ensures.lines last turned in
    record {
      read = rw (append-nil (steps_seen c.loop-line.steps)) at read;
      origins = c.loop-line.invariant.origins;
      within = omega (arith, c.in-Some.ensures.shorter);
    }

pub returns-then-is_too_long-clause-steps : goal.returns-then-is_too_long-clause-steps
returns-then-is_too_long-clause-steps c =
    let last : true ≡ (c.args.is_cut && is_no_line (lines_of c.in-Some.more.now)) = cc in
    rw c.fault_at.ensures
    (line_long script_line c.args.is_cut c.loop-line.number _ (pending_seen c.loop-line.machine.begun)
    c.in-Some.line.now _ _ (steps_seen c.loop-line.steps) _ c.loop-line.invariant.read c.in-Some.ensures.lines last)

pub returns-in-Err-clause-steps : goal.returns-in-Err-clause-steps
returns-in-Err-clause-steps c =
    let last : false ≡ (c.args.is_cut && is_no_line (lines_of c.in-Some.more.now)) = cc in
    let before = pending_seen c.loop-line.machine.begun in
    let turned = rw c.len.ensures.length at c.in-Err.ensures.turn in
    rw c.at_line.ensures
    (line_stopped script_line c.args.is_cut (turned_seen c.line.new.self.begun) steps_seen c.loop-line.number _ before
    c.in-Some.line.now _ _ (steps_seen c.loop-line.steps) _ c.in-Err.stop c.loop-line.invariant.read
    c.in-Some.ensures.lines last turned)

seen_some : (begun : Option Begun) → is_some (pending_seen begun) ≡ is_some begun
seen_some None = refl
seen_some (Some begun) = refl

pub returns-then-is_within-clause-steps : goal.returns-then-is_within-clause-steps
returns-then-is_within-clause-steps c =
    let begun = c.loop-line.machine.begun in
    let some : true ≡ is_some (pending_seen begun) = cc (seen_some begun) in
    rw c.fault_at-then-is_within.ensures
    (end_within script_line c.args.is_cut c.loop-line.number _ (pending_seen begun) _ (steps_seen c.loop-line.steps) _
    c.loop-line.invariant.read c.in_default.ensures some)

pub returns-clause-steps : goal.returns-clause-steps
returns-clause-steps c =
    let begun = c.loop-line.machine.begun in
    let none : false ≡ is_some (pending_seen begun) = cc (seen_some begun) in
    end_outside script_line c.args.is_cut c.loop-line.number _ (pending_seen begun) _ (steps_seen c.loop-line.steps) _
    c.loop-line.invariant.read c.in_default.ensures none
