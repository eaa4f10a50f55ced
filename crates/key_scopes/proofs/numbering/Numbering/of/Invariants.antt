use Rattle.std.proofs.Common.{◌≡◌, map}
use Rattle.key_scopes.specs.Numbered.{AreNumbered}
use Rattle.map_spec.specs.Cascade.{whole_at}
use Rattle.plan_nodes.specs.Preorder.{HasParentsBefore}
use Rattle.reader_spec.specs.World.{World}
use Rattle.key_scopes.proofs.numbering.Numbering.of.Given as goal

abbrev pub invariant-loop-at : goal.invariant-loop-at
invariant-loop-at l = (world : World) → l.homes ≡ map (whole_at world) l.nodes → HasParentsBefore l.nodes
    → AreNumbered world l.nodes l.at l.numbering
