use Rattle.std.proofs.Common.{◌∷◌, ◌++◌, [], refl, sym, ap, ◌∙◌}
use Rattle.std.proofs.lemmas.Bool.{OnFalse_at}
use Rattle.std.proofs.lemmas.Result.{on_ok_weaker}
use Rattle.dita_doc.specs.declared.fault.FaultCode.TheVariants as faults
use Rattle.ditaval_rules.specs.Rules.{rule_with, prop_fault}
use Rattle.ditaval_rules.specs.Reading.{prop_of}
use Rattle.ditaval_rules.proofs.ReadingLaws.{none_by_action, rule_by_action, subject_of_rule, made_rule, reads_bad, reads_new, reads_twice}
use Rattle.ditaval_rules.proofs.reading.Reading.read.Goals as goal

pub returns-in_default : goal.returns-in_default
returns-in_default c =
    let none = none_by_action (prop_of c.args.prop.now) _ c.value_of-value.ensures (sym c.in_default.is ∙ c.action_in.ensures) in
    on_ok_weaker c.push_fault.result (λ told. reads_bad c.args.name.now (prop_of c.args.prop.now) c.args.self.now _ none
    c.requires refl refl
    (told ∙ ap (λ detail. c.args.self.now.faults ++ prop_fault c.args.name.now c.args.prop.now.line faults.BadAction detail ∷ [])
    c.value_of-value.ensures)) c.push_fault.ensures

pub returns-then-not-branch : goal.returns-then-not-branch
returns-then-not-branch c =
    let attributes = c.args.prop.now.attributes in
    let is = rule_by_action (prop_of c.args.prop.now) _ c.in-Some.action c.value_of-value.ensures c.in-Some.ensures in
    let subject = subject_of_rule attributes c.in-Some.action (c.value_of-att.result, c.val_beside-val.result)
    c.value_of-att.ensures c.val_beside-val.ensures in
    on_ok_weaker c.push_fault-then-not-branch.result (λ told. reads_twice c.args.name.now (prop_of c.args.prop.now)
    c.args.self.now _ _ _ is subject c.requires (sym c.if-not-branch.true ∙ c.in_ok-insert.ensures.added)
    (OnFalse_at c.if-not-branch.true c.in_ok-insert.ensures.unchanged) refl
    (told ∙ ap (λ att. c.args.self.now.faults ++ prop_fault c.args.name.now c.args.prop.now.line faults.DitavalTwice att ∷ [])
    subject.att)) c.push_fault-then-not-branch.ensures

pub returns : goal.returns
returns c =
    let attributes = c.args.prop.now.attributes in
    let is = rule_by_action (prop_of c.args.prop.now) _ c.in-Some.action c.value_of-value.ensures c.in-Some.ensures in
    let subject = subject_of_rule attributes c.in-Some.action (c.value_of-att.result, c.val_beside-val.result)
    c.value_of-att.ensures c.val_beside-val.ensures in
    let made = made_rule c.in_ok-new_rule.field-0 (rule_with attributes c.in-Some.action) _ subject
    c.in_ok-new_rule.ensures.att c.in_ok-new_rule.ensures.val c.in_ok-new_rule.ensures.action in
    reads_new c.args.name.now (prop_of c.args.prop.now) c.args.self.now _ _ _ is subject c.requires
    (sym c.if-not-branch.false ∙ c.in_ok-insert.ensures.added) c.in_ok-insert.ensures.updates
    (c.in_ok-push.ensures ∙ ap (λ rule. c.args.self.now.rules ++ rule ∷ []) made) refl
