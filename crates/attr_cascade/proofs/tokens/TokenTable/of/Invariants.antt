use Rattle.std.proofs.Common.{◌≡◌}
use Rattle.std.specs.Prelude.{codes, map}
use Rattle.map_spec.specs.Cascade.{whole_at}
use Rattle.plan_nodes.specs.Preorder.{HasParentsBefore}
use Rattle.reader_spec.specs.World.{World}
use Rattle.attr_cascade.specs.Nearest.{nearest_of, seen}
use Rattle.attr_cascade.specs.Tokens.{AreTokens}
use Rattle.attr_cascade.proofs.tokens.TokenTable.of.Given as goal

abbrev pub invariant-loop-at : goal.invariant-loop-at
invariant-loop-at l = (world : World) → l.homes ≡ map (whole_at world) l.nodes → HasParentsBefore l.nodes
    → seen l.cascades ≡ nearest_of world (codes "cascade") l.nodes
    → AreTokens world l.name l.nodes l.lists.items l.places.items l.at
