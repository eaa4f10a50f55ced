use Rattle.std.proofs.Common.{rules, tests}
use Rattle.std.proofs.lemmas.Cmp.{is_eq_index}
use Rattle.std.proofs.lemmas.List.Sorted.{IsPartitionPoint-from_clause}
use Rattle.key_scopes.specs.Children.{is_same}
use Rattle.key_scopes.proofs.ChildLaws.{same_parted}
use Rattle.key_scopes.proofs.children.count_of.Goals as goal

pub returns : goal.returns
returns c = λ sorted not_below.
    IsPartitionPoint-from_clause (is_same c.args.parent c.args.name.now) c.args.rest.now c.partition_point.result
    c.partition_point.ensures.partitioned (same_parted c.args.parent c.args.name.now c.args.rest.now sorted not_below)
    (λ x b q k. search (rules, tests, is_eq_index))
