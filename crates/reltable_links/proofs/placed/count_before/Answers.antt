use Rattle.std.specs.Prelude.{not}
use Rattle.std.proofs.Common.{rules, tests}
use Rattle.std.proofs.lemmas.List.Sorted.{IsPartitionPoint-from_clause}
use Rattle.reltable_links.specs.Below.{is_behind}
use Rattle.reltable_links.proofs.BelowLaws.{behind_parted}
use Rattle.reltable_links.proofs.placed.count_before.Goals as goal

pub returns : goal.returns
returns g c = λ order.
    IsPartitionPoint-from_clause (λ x. not (is_behind c.args.cell.now c.args.done (g.T.Placed.place x))) c.args.items.now
    c.partition_point.result c.partition_point.ensures.partitioned
    (behind_parted g.T.Placed.place c.args.items.now order c.args.cell.now c.args.done)
    (λ x b q k. search (rules, tests))
