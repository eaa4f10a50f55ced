use Rattle.std.proofs.Common.{◌++◌, ◌∷◌, [], ◌∙◌, ap}
use Rattle.conref_push.proofs.GroupLaws.{group_put}
use Rattle.conref_push.proofs.pushed_doc.put_in_group.Goals as goal

pub returns : goal.returns
returns c = λ pushes are.
    group_put pushes c.args.push c.args.groups.now c.take_group-group.new.groups c.insert.new.self c.push.new.self
    c.take_group-group.ensures.others (record { each = c.in_ok-insert.ensures.updates.0 })
    (c.in_ok-push.ensures.items ∙ ap (λ l. l ++ c.args.push ∷ []) c.take_group-group.ensures.group) are
