use Rattle.std.proofs.Common.{rules, tests, nat_lt}
use Rattle.std.proofs.lemmas.List.Sorted.{IsPartitionPoint-from_clause}
use Rattle.ditaval_rules.specs.declared.declarations.DeclaredEntry.{DeclaredEntry}
use Rattle.ditaval_rules.proofs.HalvingLaws.{cut_before, parted_before}
use Rattle.ditaval_rules.proofs.declarations.count_before.Goals as goal

pub returns : goal.returns
returns c =
    cut_before c.args.entries.now c.args.place c.partition_point.result c.partition_point.ensures.bound
    (IsPartitionPoint-from_clause (λ (entry : DeclaredEntry). nat_lt entry.place c.args.place) c.args.entries.now
    c.partition_point.result c.partition_point.ensures.partitioned
    (parted_before c.args.entries.now c.args.place c.requires) (λ x b q k. search (rules, tests)))
