use Rattle.std.proofs.Common.{◌≡◌, ◌+◌, ◌++◌, ◌∙◌, ap, arith, length}
use Rattle.std.specs.Prelude.{take}
use Rattle.ditaval_rules.specs.Verdict.{conditional_names}
use Rattle.attr_cascade.proofs.ValueLaws.{all_names, table_at, tokens_put, with_tokens}
use Rattle.attr_cascade.proofs.values.values_at.Goals as goal

pub loop-table-preserved : goal.loop-table-preserved
loop-table-preserved c = λ world nodes within are.
    let index = c.loop-table.table-index in
    let found = table_at world nodes conditional_names c.args.tables.now index c.table-item.result are
    c.loop-table-test.true c.table-item.is in
    tokens_put world nodes conditional_names (take index conditional_names) (take (index + 1) conditional_names)
    c.args.at found.name c.put_nearest.new.values c.loop-table.values c.put_tokens.new.values found.here
    (c.loop-table.invariant world nodes within are)
    (c.in_ok-put_tokens.ensures world found.name nodes within found.is)

pub returns : goal.returns
returns c = λ world nodes within near are in_table.
    let end : c.loop-table.table-index ≡ length c.args.tables.now = omega arith in
    c.loop-table.invariant world nodes within are
    ∙ ap (λ n. c.put_nearest.new.values ++ with_tokens world nodes c.args.at (take n conditional_names)) end
    ∙ ap (λ names. c.put_nearest.new.values ++ with_tokens world nodes c.args.at names)
    (all_names world nodes conditional_names c.args.tables.now are)
    ∙ ap (λ front. front ++ with_tokens world nodes c.args.at conditional_names)
    (c.in_ok-put_nearest.ensures world nodes within near in_table c.new-values.ensures)
