use Rattle.std.specs.Prelude.{nat_lt}
use Rattle.std.proofs.Common.{rules, tests}
use Rattle.std.proofs.lemmas.List.Sorted.{IsPartitionPoint-from_clause}
use Rattle.reltable_links.proofs.BelowLaws.{within_parted}
use Rattle.reltable_links.proofs.placed.count_within.Goals as goal

pub returns : goal.returns
returns g c = λ order.
    IsPartitionPoint-from_clause (λ x. nat_lt (g.T.Placed.place x) c.args.end) c.args.items.now
    c.partition_point.result c.partition_point.ensures.partitioned
    (within_parted g.T.Placed.place c.args.items.now order c.args.end)
    (λ x b q k. search (rules, tests))
