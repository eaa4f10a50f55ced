use Rattle.std.proofs.Common.{◌≡◌, ◌<◌, Err, IfErr, length, sym, ap, ◌∙◌, subst, arith, rules}
use Rattle.std.proofs.lemmas.Bool.Decides.{nat_tests}
use Rattle.dita_doc.specs.Gives.{IsStopOf}
use Rattle.dita_doc.specs.Pyx.{reading}
use Rattle.dita_doc.specs.declared.fault.PyxFault.{PyxFault}
use Rattle.pyx_text.proofs.ReaderLaws.{end_over, end_none, end_last, last_fault}
use Rattle.pyx_text.proofs.text_machine.TextMachine.end_text.Goals as goal

pub returns-then-self-clause-fault : goal.returns-then-self-clause-fault
returns-then-self-clause-fault c text at =
    let machine = c.args.self.now in
    end_over machine text at c.if-self.true ∙ ap (λ (fault : PyxFault). Err fault) (sym c.too_long.ensures)

pub returns-in_err-end_line-clause-fault : goal.returns-in_err-end_line-clause-fault
returns-in_err-end_line-clause-fault c text at =
    let reader = c.args.self.now in
    let some : 0 < length reader.line.items = grind (arith, nat_tests) in
    let stop = c.in_err-end_line.field-0.0 in
    let is : c.from_residual.result ≡ Err stop = search rules in
    subst (λ r. IfErr r (λ stop. IsStopOf stop (reading text))) (sym is)
    (last_fault reader text at stop (search rules) some (λ rest. c.in_err-end_line.ensures.fault at.before rest at.read))

pub returns-in_ok-end_line-clause-ok : goal.returns-in_ok-end_line-clause-ok
returns-in_ok-end_line-clause-ok c text at =
    let reader = c.args.self.now in
    let some : 0 < length reader.line.items = grind (arith, nat_tests) in
    let step = c.in_ok-end_line.ensures.ok at.before at.read in
    end_last reader c.end_line.new.self text at (search rules) some c.in_ok-end_line.ensures.number step.0 step.1

pub returns-else-not-is_empty-clause-ok : goal.returns-else-not-is_empty-clause-ok
returns-else-not-is_empty-clause-ok c text at =
    let none : length c.args.self.now.line.items ≡ 0 = grind (arith, nat_tests) in
    end_none c.args.self.now text at (search rules) none
