use Rattle.std.proofs.Common.{rules, tests}
use Rattle.std.proofs.lemmas.Cmp.{is_lt_index}
use Rattle.std.proofs.lemmas.List.Sorted.{IsPartitionPoint-from_clause}
use Rattle.key_scopes.specs.Children.{is_below}
use Rattle.key_scopes.proofs.ChildLaws.{below_parted}
use Rattle.key_scopes.proofs.children.place_for.Goals as goal

pub returns : goal.returns
returns c = λ sorted.
    IsPartitionPoint-from_clause (is_below c.args.parent c.args.name.now) c.args.sorted.now c.partition_point.result
    c.partition_point.ensures.partitioned (below_parted c.args.parent c.args.name.now c.args.sorted.now sorted)
    (λ x b q k. search (rules, tests, is_lt_index))
