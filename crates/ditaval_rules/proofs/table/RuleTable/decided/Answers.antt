use Rattle.std.proofs.Common.{◌∙◌, sym, ap}
use Rattle.std.specs.Prelude.{unwrap_or}
use Rattle.dita_doc.specs.declared.content.Action.TheVariants as actions
use Rattle.ditaval_rules.specs.Aim.{deciding_action}
use Rattle.ditaval_rules.specs.Verdict.{decided, deciding}
use Rattle.ditaval_rules.proofs.TableLaws.{decided_action}
use Rattle.ditaval_rules.proofs.table.RuleTable.decided.Goals as goal

pub returns : goal.returns
returns c =
    let att = c.args.att.now in
    let token = c.args.token.now in
    c.unwrap_or.ensures
    ∙ ap (λ action. unwrap_or action actions.Include)
    (c.deciding.ensures ∙ ap (λ sorted. deciding_action sorted att token) c.as_slice.ensures.value)
    ∙ sym (decided_action c.self.inside.sorted.items c.self.inside.rules c.self.invariant att token)
    ∙ ap (λ rules. decided (deciding rules att token)) c.self.view_is
