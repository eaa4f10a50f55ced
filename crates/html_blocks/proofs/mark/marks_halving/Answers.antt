use Rattle.std.proofs.Common.{◌≡◌, ◌∙◌, ap, subst, sym, take, true, false}
use Rattle.std.specs.Prelude.{nat_le}
use Rattle.std.specs.List.Sorted.{IsPartitionPoint}
use Rattle.dita_doc.specs.declared.content.Mark.{Mark}
use Rattle.html_blocks.specs.Marks.{AreRising}
use Rattle.html_spec.specs.Blocks.{marks_at}
use Rattle.html_blocks.proofs.MarkLaws.{marks_between, rises_behind}
use Rattle.html_blocks.proofs.mark.marks_halving.Goals as goal

pub returns : goal.returns
returns c = λ rise.
    let marks = c.args.marks.now in
    let place = c.args.place in
    let first = c.count_before.result in
    let count = c.count_within.result in
    let rest = c.marks_behind-rest.ensures in
    ap (λ some. marks_at some place) (c.marks_before.ensures ∙ ap (take count) rest)
    ∙ marks_between marks place first count (c.count_before.ensures rise)
    (subst (λ all. IsPartitionPoint (λ (mark : Mark). nat_le mark.place place ≡ true)
    (λ (mark : Mark). nat_le mark.place place ≡ false) all count) rest
    (c.count_within.ensures (subst AreRising (sym rest) (rises_behind marks first rise))))
