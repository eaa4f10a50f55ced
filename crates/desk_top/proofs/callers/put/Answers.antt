use Rattle.desk_top.proofs.PileLaws.{pile_put}
use Rattle.desk_top.proofs.ServedLaws.{asked_put}
use Rattle.desk_top.proofs.callers.put.Goals as goal

pub returns-clause-all : goal.returns-clause-all
returns-clause-all c = asked_put c.args.piles.now c.args.home c.index-piles-home.result c.push.new.self c.args.asked
    c.requires.within c.requires.asked c.in_ok-push.ensures.items c.requires.all

pub returns-clause-put : goal.returns-clause-put
returns-clause-put c = pile_put c.args.piles.now c.args.home c.index-piles-home.result c.push.new.self c.args.asked
    c.requires.within c.in_ok-push.ensures.items
