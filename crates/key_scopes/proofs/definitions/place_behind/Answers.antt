use Rattle.std.proofs.Common.{not, rules, tests}
use Rattle.std.proofs.lemmas.Cmp.{is_lt_index}
use Rattle.std.proofs.lemmas.List.Sorted.{IsPartitionPoint-from_clause}
use Rattle.key_scopes.specs.Defined.{is_behind}
use Rattle.key_scopes.proofs.OutermostLaws.{not_greater, parted_behind}
use Rattle.key_scopes.proofs.definitions.place_behind.Goals as goal

pub returns-clause-place : goal.returns-clause-place
returns-clause-place c = λ strict.
    IsPartitionPoint-from_clause (λ d. not (is_behind c.args.scope c.args.key.now d)) c.args.sorted.now
    c.partition_point.result c.partition_point.ensures.partitioned
    (parted_behind c.args.scope c.args.key.now c.args.sorted.now strict)
    (λ x b q k. search (rules, tests, is_lt_index, not_greater))
