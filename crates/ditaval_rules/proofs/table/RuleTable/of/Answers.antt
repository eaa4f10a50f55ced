use Rattle.std.proofs.Common.{◌≡◌, rules}
use Rattle.std.specs.List.{each_same}
use Rattle.ditaval_rules.proofs.TableLaws.{table_sorted}
use Rattle.ditaval_rules.proofs.table.RuleTable.of.Goals as goal

pub invariant_of-result : goal.invariant_of-result
invariant_of-result c =
    let copied : c.in_ok-clone.field-0 ≡ c.args.rules = each_same _ _ c.in_ok-clone.ensures.cases in
    let same : c.into_vec-sorted.result.items ≡ c.args.rules = search (copied, rules) in
    table_sorted c.into_vec-sorted.result.items c.sort_by.new.self.items c.args.rules same
    c.in_ok-sort_by.ensures.sorted c.in_ok-sort_by.ensures.stable (λ f a r f' called. search rules)
