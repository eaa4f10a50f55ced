use Rattle.std.proofs.Common.{◌≡◌}
use Rattle.std.specs.Prelude.{map}
use Rattle.map_spec.specs.Cascade.{whole_at}
use Rattle.plan_nodes.specs.Preorder.{HasParentsBefore}
use Rattle.reader_spec.specs.World.{World}
use Rattle.attr_cascade.specs.Nearest.{nearest_at, seen}
use Rattle.plan_nodes.proofs.PlaceLaws.{known}
use Rattle.attr_cascade.proofs.nearest.nearest_values.Given as goal

abbrev pub invariant-loop-at : goal.invariant-loop-at
invariant-loop-at l = (world : World) → l.homes ≡ map (whole_at world) l.nodes → HasParentsBefore l.nodes
    → seen l.values.items ≡ known (nearest_at world l.name l.nodes) l.nodes l.at
