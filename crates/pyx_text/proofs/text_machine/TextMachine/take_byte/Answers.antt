use Rattle.std.proofs.Common.{◌≡◌, ◌≢◌, ◌-◌, [], ◌∷◌, ◌++◌, Err, IfErr, sym, subst, arith, rules}
use Rattle.pyx_text.specs.declared.text_machine.TextMachine.{TextMachine}
use Rattle.pyx_text.specs.Reader.{IsAt, IsTold}
use Rattle.pyx_text.proofs.ReaderLaws.{IsAt-return, IsAt-push, told_line}
use Rattle.pyx_text.proofs.text_machine.TextMachine.take_byte.Goals as goal

pub returns-in-13-clause-ok : goal.returns-in-13-clause-ok
returns-in-13-clause-ok c text at =
    let machine = c.args.self.now in
    let next : TextMachine = record machine { left = machine.left - 1 } in
    subst (λ b. IsAt next (text ++ b ∷ [])) (sym c.in-13.is)
    (IsAt-return machine (machine.left - 1) text at (omega arith))

pub returns-in_ok-push-in_default-clause-ok : goal.returns-in_ok-push-in_default-clause-ok
returns-in_ok-push-in_default-clause-ok c text at =
    let machine = c.args.self.now in
    let other : c.args.byte ≢ 10 = omega arith in
    let kept : c.args.byte ≢ 13 = omega arith in
    let put : c.push.new.self.items ≡ machine.line.items ++ c.args.byte ∷ [] = search rules in
    IsAt-push machine (machine.left - 1) c.push.new.self c.args.byte text at (omega arith) other kept put

pub returns-in_err-end_line-in-10-clause-fault : goal.returns-in_err-end_line-in-10-clause-fault
returns-in_err-end_line-in-10-clause-fault c text rest at =
    let machine = c.args.self.now in
    let stop = c.in_err-end_line-in-10.field-0.0 in
    let is : c.from_residual.result ≡ Err stop = search rules in
    let told : IsTold stop ((text ++ 10 ∷ []) ++ rest) =
    told_line machine (machine.left - 1) text rest stop at (omega arith)
    (λ behind. c.in_err-end_line-in-10.ensures.fault at.before behind at.read) in
    subst (λ r. IfErr r (λ stop. IsTold stop ((text ++ c.args.byte ∷ []) ++ rest))) (sym is)
    (subst (λ b. IsTold stop ((text ++ b ∷ []) ++ rest)) (sym c.in-10.is) told)
