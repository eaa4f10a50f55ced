use Rattle.std.proofs.Common.{◌≡◌, sym, ap, ◌∙◌, subst}
use Rattle.dita_doc.specs.PyxLine.{line_by_bytes, line_of}
use Rattle.dita_doc.specs.PyxEvent.{fault_of, after}
use Rattle.pyx_text.specs.Machine.{HasRead, StepsTo}
use Rattle.pyx_text.proofs.LineLaws.{text_said, no_text_said}
use Rattle.pyx_text.proofs.machine.PyxMachine.take_line.Goals as goal

pub returns-in-Ok : goal.returns-in-Ok
returns-in-Ok c before read =
    let bytes = c.args.bytes.now in
    let machine = c.take_text.new.self in
    let same : line_by_bytes c.in-Ok.line.now ≡ line_of bytes =
    ap line_by_bytes c.in-Ok.ensures.cases.0 ∙ sym (text_said bytes c.in-Ok.ensures.cases.1) in
    subst (λ said. StepsTo c.take_text.result (fault_of before said)
    (HasRead machine (after c.args.number before said)))
    same (c.take_text.ensures before read)

pub returns-in-Err : goal.returns-in-Err
returns-in-Err c before read = ap (fault_of before) (no_text_said c.args.bytes.now c.in-Err.ensures.cases.0)
