use Rattle.std.proofs.Common.{rules}
use Rattle.fact_table.proofs.KeyLaws.{same_if_equal}
use Rattle.fact_table.proofs.ranks.is_same.Goals as goal

pub returns : goal.returns
returns c = same_if_equal c.args.one.now c.args.other.now c.is_eq.result (search rules)
