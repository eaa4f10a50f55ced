use Rattle.std.proofs.Common.{rules}
use Rattle.fact_table.proofs.KeyLaws.{renewed_by}
use Rattle.fact_table.proofs.ranks.leave.Goals as goal

pub returns : goal.returns
returns c = renewed_by c.args.key.now 0 c.args.ranks.now c.remove.new.self (search rules)
    (record { others = λ other apart. search rules })
