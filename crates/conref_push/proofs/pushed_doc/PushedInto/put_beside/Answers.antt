use Rattle.std.proofs.Common.{sym}
use Rattle.doc_maker.specs.Made.{building}
use Rattle.doc_maker.proofs.BuildingLaws.{behind_end}
use Rattle.conref_push.proofs.MakingLaws.{copy_all, copy_more, from_one}
use Rattle.conref_push.proofs.SourceLaws.{from_among}
use Rattle.conref_push.proofs.pushed_doc.PushedInto.put_beside.Goals as goal

pub loop-push-init : goal.loop-push-init
loop-push-init c = λ world names are among. sym (behind_end (building c.args.maker.now))

pub loop-push-preserved : goal.loop-push-preserved
loop-push-preserved c = λ world names are among.
    let group = c.args.group.now in
    let at = c.loop-push.push-index in
    let one = c.push-item.result in
    copy_more world c.args.kind group at one _ (building c.args.maker.now) (building c.loop-push.maker)
    (building c.put_if.new.maker) c.loop-push-test.true c.push-item.is c.is_of_kind.ensures
    (c.in_ok-put_if.ensures world names are
    (from_one names one (among.each one.from (from_among group at one c.loop-push-test.true c.push-item.is))))
    (c.loop-push.invariant world names are among)

pub returns : goal.returns
returns c = λ world names are among.
    copy_all world c.args.kind c.args.group.now c.loop-push.push-index (building c.args.maker.now)
    (building c.loop-push.maker) c.loop-push-test.false (c.loop-push.invariant world names are among)
