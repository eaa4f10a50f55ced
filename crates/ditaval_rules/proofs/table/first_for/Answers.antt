use Rattle.std.proofs.Common.{◌∙◌, sym, ap}
use Rattle.std.proofs.lemmas.Cmp.{is_eq_index}
use Rattle.std.specs.Option.{option_copied}
use Rattle.std.specs.Ordering.{is_eq}
use Rattle.ditaval_rules.specs.Aim.{Aim}
use Rattle.ditaval_rules.proofs.TableLaws.{halved_found, halved_other, halved_past}
use Rattle.ditaval_rules.proofs.table.first_for.Goals as goal

pub returns-in_err-rule : goal.returns-in_err-rule
returns-in_err-rule c =
    let aim : Aim = (option_copied c.args.att, option_copied c.args.val) in
    c.from_residual.ensures
    ∙ halved_past aim c.args.sorted.now c.requires c.place_for.result c.place_for.ensures
    c.in_err-rule.ensures.lookup.3

pub returns-then-eq : goal.returns-then-eq
returns-then-eq c =
    let aim : Aim = (option_copied c.args.att, option_copied c.args.val) in
    halved_found aim c.args.sorted.now c.requires c.place_for.result c.place_for.ensures c.in_ok-rule.rule.now
    c.in_ok-rule.ensures.lookup.3.0 c.in_ok-rule.ensures.lookup.1
    (ap is_eq (sym c.compare.ensures) ∙ is_eq_index c.compare.result ∙ sym c.if-eq.ensures)

pub returns-else-eq : goal.returns-else-eq
returns-else-eq c =
    let aim : Aim = (option_copied c.args.att, option_copied c.args.val) in
    halved_other aim c.args.sorted.now c.requires c.place_for.result c.place_for.ensures c.in_ok-rule.rule.now
    c.in_ok-rule.ensures.lookup.3.0 c.in_ok-rule.ensures.lookup.1
    (ap is_eq (sym c.compare.ensures) ∙ is_eq_index c.compare.result ∙ sym c.if-eq.ensures)
