use Rattle.std.proofs.Common.{rules, tests}
use Rattle.std.proofs.lemmas.Cmp.{is_lt_index}
use Rattle.std.proofs.lemmas.List.Sorted.{IsPartitionPoint-from_clause}
use Rattle.std.specs.Option.{option_copied}
use Rattle.ditaval_rules.specs.Aim.{Aim, is_below}
use Rattle.ditaval_rules.proofs.TableLaws.{parted}
use Rattle.ditaval_rules.proofs.table.place_for.Goals as goal

pub returns : goal.returns
returns c =
    let aim : Aim = (option_copied c.args.att, option_copied c.args.val) in
    IsPartitionPoint-from_clause (is_below aim) c.args.sorted.now c.partition_point.result
    c.partition_point.ensures.partitioned (parted aim c.args.sorted.now c.requires)
    (λ x b q k. search (rules, tests, is_lt_index))
