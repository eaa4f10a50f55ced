use Rattle.std.proofs.Common.{rules, tests}
use Rattle.std.proofs.lemmas.Cmp.{is_lt_index}
use Rattle.std.proofs.lemmas.List.Sorted.{IsPartitionPoint-from_clause}
use Rattle.key_scopes.specs.Defined.{is_below}
use Rattle.key_scopes.proofs.OrderLaws.{parted}
use Rattle.key_scopes.proofs.definitions.place_for.Goals as goal

pub returns : goal.returns
returns c = λ strict.
    IsPartitionPoint-from_clause (is_below c.args.scope c.args.key.now) c.args.sorted.now c.partition_point.result
    c.partition_point.ensures.partitioned (parted c.args.scope c.args.key.now c.args.sorted.now strict)
    (λ x b q k. search (rules, tests, is_lt_index))
