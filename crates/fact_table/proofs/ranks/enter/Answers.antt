use Rattle.std.proofs.Common.{rules}
use Rattle.fact_table.proofs.KeyLaws.{entered, same_ranks, unchanged_entries}
use Rattle.fact_table.proofs.ranks.enter.Goals as goal

pub returns-then-contains_key-clause-same : goal.returns-then-contains_key-clause-same
returns-then-contains_key-clause-same c = same_ranks c.args.ranks.now

pub returns-in_err-clone-clause-same : goal.returns-in_err-clone-clause-same
returns-in_err-clone-clause-same c = same_ranks c.args.ranks.now

pub returns-in_err-insert-clause-same : goal.returns-in_err-insert-clause-same
returns-in_err-insert-clause-same c =
    unchanged_entries c.args.ranks.now c.insert.new.self c.in_err-insert.ensures.err

pub returns-clause-same : goal.returns-clause-same
returns-clause-same c = entered c.args.key.now c.args.ranks.now c.insert.new.self (search rules) (search rules)
    (record { others = λ other apart. search rules })
