use Rattle.std.proofs.Common.{◌≡◌, ◌+◌, None, subst}
use Rattle.dita_doc.specs.PyxLine.{line_of}
use Rattle.dita_doc.specs.PyxEvent.{fault_of, after}
use Rattle.pyx_text.specs.Machine.{HasRead}
use Rattle.pyx_text.proofs.ReaderLaws.{HasReadLines-more}
use Rattle.pyx_text.proofs.text_machine.TextMachine.end_line.Goals as goal

pub returns-in-Ok-clause-ok : goal.returns-in-Ok-clause-ok
returns-in-Ok-clause-ok c before read =
    let number = c.args.self.now.number + 1 in
    let bytes = c.args.self.now.line.items in
    let machine = c.take_line.new.self in
    let step : (fault_of before (line_of bytes) ≡ None) × HasRead machine (after number before (line_of bytes)) =
    subst (λ b. (fault_of before (line_of b) ≡ None) × HasRead machine (after number before (line_of b)))
    c.deref.ensures.value (c.in-Ok.ensures before read.read) in
    let few = HasReadLines-more number c.args.self.now.number before (line_of bytes) read.few in
    (step.0, record { read = step.1; few = few })
