use Rattle.key_scopes.proofs.OwnKeyLaws.{none_more}
use Rattle.key_scopes.proofs.own_keys.no_keys.Goals as goal

pub loop-preserved : goal.loop-preserved
loop-preserved c =
    none_more c.loop.maps.items c.push.new.self.items c.new.result c.loop.counter c.loop.invariant c.new.ensures.empty
    c.in_ok-push.ensures.items
