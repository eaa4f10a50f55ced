use Rattle.std.proofs.Common.{rules}
use Rattle.fact_table.proofs.KeyLaws.{renewed_by}
use Rattle.fact_table.proofs.ranks.renew.Goals as goal

pub returns-clause-renewed : goal.returns-clause-renewed
returns-clause-renewed c = renewed_by c.args.key.now c.args.rank c.args.ranks.now
    (c.get_mut.follows.lender c.replace.new.dest) (search rules) (record { others = λ other apart. search rules })
