use Rattle.std.proofs.Common.{◌∙◌, subst, sym}
use Rattle.ditaval_rules.specs.Verdict.{conditional_names}
use Rattle.attr_cascade.specs.Tokens.{AreTables}
use Rattle.attr_cascade.proofs.values.cascade_in.Goals as goal

pub returns : goal.returns
returns c = λ world homes before.
    let near = c.in_ok-nearest.ensures world homes before in
    let tables = subst (AreTables world c.args.nodes.now conditional_names) (sym c.deref.ensures.value)
    (c.in_ok-put_tables.ensures world homes before near c.new-tables.ensures.items) in
    c.copies_with_values.ensures world near tables (c.deref-2.ensures.value ∙ c.in_ok-inside.ensures before)
