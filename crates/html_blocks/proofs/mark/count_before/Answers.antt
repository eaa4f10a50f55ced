use Rattle.std.specs.Prelude.{nat_lt}
use Rattle.std.proofs.Common.{rules, tests}
use Rattle.std.proofs.lemmas.List.Sorted.{IsPartitionPoint-from_clause}
use Rattle.dita_doc.specs.declared.content.Mark.{Mark}
use Rattle.html_blocks.proofs.MarkLaws.{before_parted}
use Rattle.html_blocks.proofs.mark.count_before.Goals as goal

pub returns : goal.returns
returns c = λ rise.
    IsPartitionPoint-from_clause (λ (mark : Mark). nat_lt mark.place c.args.place) c.args.marks.now
    c.partition_point.result c.partition_point.ensures.partitioned (before_parted c.args.marks.now rise c.args.place)
    (λ x b q k. search (rules, tests))
