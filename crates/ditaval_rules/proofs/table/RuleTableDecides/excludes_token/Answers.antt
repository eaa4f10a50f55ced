use Rattle.std.proofs.Common.{◌≡◌, ◌∙◌, sym, ap, rules}
use Rattle.ditaval_rules.specs.Aim.{deciding_action}
use Rattle.ditaval_rules.specs.Verdict.{decides_exclude, deciding}
use Rattle.ditaval_rules.proofs.TableLaws.{decided, excluding}
use Rattle.ditaval_rules.proofs.table.RuleTableDecides.excludes_token.Goals as goal

pub returns : goal.returns
returns c =
    let att = c.args.att.now in
    let token = c.args.token.now in
    let told = decided c.self.inside.sorted.items c.self.inside.rules c.self.invariant att token in
    let action : c.deciding-action.result ≡ deciding_action c.self.inside.sorted.items att token =
    c.deciding-action.ensures ∙ ap (λ l. deciding_action l att token) c.as_slice.ensures.value in
    let seen : c.is_some_and.result ≡ excluding c.deciding-action.result = search rules in
    let rule = ap (λ l. decides_exclude (deciding l att token)) c.self.view_is in
    seen ∙ ap excluding action ∙ sym told ∙ rule
