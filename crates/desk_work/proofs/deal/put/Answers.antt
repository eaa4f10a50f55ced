use Rattle.desk_work.proofs.PileLaws.{pile_put}
use Rattle.desk_work.proofs.deal.put.Goals as goal

pub returns-clause-put : goal.returns-clause-put
returns-clause-put c = pile_put c.args.piles.now c.args.home c.index-piles-home.result c.push.new.self c.args.key
    c.requires c.in_ok-push.ensures.items
