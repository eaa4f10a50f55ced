use Rattle.std.proofs.Common.{◌≡◌, map, take}
use Rattle.map_spec.specs.Cascade.{whole_at}
use Rattle.map_spec.specs.Scopes.{places}
use Rattle.plan_nodes.specs.Preorder.{HasParentsBefore}
use Rattle.reader_spec.specs.World.{World}
use Rattle.family_links.specs.Grouped.{kind_at}
use Rattle.family_links.proofs.groups.kinds_of.Given as goal

abbrev pub invariant-loop-at : goal.invariant-loop-at
invariant-loop-at l = (world : World) → HasParentsBefore l.plan.nodes → l.homes ≡ map (whole_at world) l.plan.nodes
    → l.kinds.items ≡ map (kind_at world l.plan) (take l.at (places l.plan.nodes))
