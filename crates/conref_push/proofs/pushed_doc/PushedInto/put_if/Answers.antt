use Rattle.std.proofs.Common.{◌≡◌, ◌∙◌, ap, subst, sym}
use Rattle.std.specs.Prelude.{Bool, OnOk, []}
use Rattle.doc_maker.specs.Building.{behind}
use Rattle.doc_maker.specs.Made.{building}
use Rattle.doc_maker.proofs.BuildingLaws.{behind_end}
use Rattle.conref_push.specs.Making.{copy_if}
use Rattle.conref_push.proofs.pushed_doc.PushedInto.put_if.Goals as goal

pub returns-then-wanted : goal.returns-then-wanted
returns-then-wanted c = λ world names are from.
    subst (λ (b : Bool). OnOk c.put_copy.result (building c.put_copy.new.maker
    ≡ behind (building c.args.maker.now) (copy_if world b c.args.push.now)))
    (sym c.if-wanted.true) (c.put_copy.ensures world names [] are from)

pub returns-else-wanted : goal.returns-else-wanted
returns-else-wanted c = λ world names are from.
    sym (behind_end (building c.args.maker.now))
    ∙ ap (λ (b : Bool). behind (building c.args.maker.now) (copy_if world b c.args.push.now)) (sym c.if-wanted.false)
