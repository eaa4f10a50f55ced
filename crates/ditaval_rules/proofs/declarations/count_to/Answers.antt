use Rattle.std.proofs.Common.{rules, tests, nat_le}
use Rattle.std.proofs.lemmas.List.Sorted.{IsPartitionPoint-from_clause}
use Rattle.ditaval_rules.specs.declared.declarations.DeclaredEntry.{DeclaredEntry}
use Rattle.ditaval_rules.proofs.HalvingLaws.{cut_to, parted_to}
use Rattle.ditaval_rules.proofs.declarations.count_to.Goals as goal

pub returns : goal.returns
returns c =
    cut_to c.args.entries.now c.args.place c.partition_point.result c.partition_point.ensures.bound
    (IsPartitionPoint-from_clause (λ (entry : DeclaredEntry). nat_le entry.place c.args.place) c.args.entries.now
    c.partition_point.result c.partition_point.ensures.partitioned
    (parted_to c.args.entries.now c.args.place c.requires) (λ x b q k. search (rules, tests)))
