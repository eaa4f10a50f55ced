use Rattle.page_names.specs.PageUses.{id_by, use_by}
use Rattle.page_names.proofs.PageUseLaws.{page_more, use_is}
use Rattle.page_names.proofs.page_uses.PageUses.put.Goals as goal

pub returns-in_ok-push : goal.returns-in_ok-push
returns-in_ok-push c = λ uses first.
    page_more uses c.args.self.now (record { uses = c.push.new.self; seen = c.insert.new.self }) c.in_ok-key_of.field-0
    (use_by c.args.at c.args.name.now c.args.node.now) (record { id = c.in_ok-id.id; node = c.in_ok-node.node })
    c.in_ok-insert.field-0 first c.in_ok-key_of.ensures c.in_ok-insert.ensures.added c.if-branch.true
    c.in_ok-insert.ensures.keys c.in_ok-push.ensures.items
    (use_is c.in_ok-id.id (id_by c.args.name.now c.args.node.now) c.in_ok-node.node c.args.at c.in_ok-id.ensures
    c.in_ok-node.ensures.place)
