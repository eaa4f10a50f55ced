use Rattle.std.proofs.Common.{◌++◌, ◌∷◌, [], subst, take}
use Rattle.conref_push.specs.Making.{AreGroups}
use Rattle.conref_push.proofs.GroupLaws.{groups_all, groups_step, no_groups}
use Rattle.conref_push.proofs.pushed_doc.by_place.Goals as goal

pub loop-push-init : goal.loop-push-init
loop-push-init c = no_groups c.new-groups.result c.new-groups.ensures.empty

pub loop-push-preserved : goal.loop-push-preserved
loop-push-preserved c =
    let pushes = c.args.pushes.now in
    let at = c.loop-push.push-index in
    groups_step pushes at c.push-item.result c.put_in_group.new.groups c.loop-push-test.true c.push-item.is
    (subst (λ push. AreGroups (take at pushes ++ push ∷ []) c.put_in_group.new.groups) c.in_ok-copy_push.ensures
    (c.in_ok-put_in_group.ensures (take at pushes) c.loop-push.invariant))

pub returns : goal.returns
returns c = groups_all c.args.pushes.now c.loop-push.push-index c.loop-push.groups c.loop-push-test.false
    c.loop-push.invariant
