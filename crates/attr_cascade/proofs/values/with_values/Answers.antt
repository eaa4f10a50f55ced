use Rattle.attr_cascade.proofs.ValueLaws.{with_values}
use Rattle.attr_cascade.proofs.values.with_values.Goals as goal

pub returns : goal.returns
returns c = λ world nodes within near tables in_table. with_values _ _ _ _ c.in_ok-copy.ensures
    (c.in_ok-values.ensures world nodes within near tables in_table)
