use Rattle.reltable_links.proofs.LoopLaws.{target_put}
use Rattle.reltable_links.proofs.linked.append_target.Goals as goal

pub returns-in_ok-push : goal.returns-in_ok-push
returns-in_ok-push c = λ own all holds.
    target_put own all c.args.node.now c.push.new.self c.if-node.true (c.in_ok-push.ensures own all holds)
