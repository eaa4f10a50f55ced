use Rattle.map_expand.proofs.MapLaws.{flags_marked, homes_marked}
use Rattle.map_expand.proofs.maps.Maps.set_around.Goals as goal

pub returns-then-map-len-clause-homes : goal.returns-then-map-len-clause-homes
returns-then-map-len-clause-homes c =
    homes_marked c.args.self.now.maps.items c.args.map c.index_mut-found.result.now c.args.is_around
    c.index_mut-found.ensures.value

pub returns-then-map-len-clause-flags : goal.returns-then-map-len-clause-flags
returns-then-map-len-clause-flags c =
    flags_marked c.args.self.now.maps.items c.args.map c.index_mut-found.result.now c.args.is_around
