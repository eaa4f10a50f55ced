use Rattle.std.proofs.Common.{◌≡◌, ◌<◌, ℕ, Some, length, map}
use Rattle.std.specs.Prelude.{slice_get}
use Rattle.map_spec.specs.Branches.{scope_names_of}
use Rattle.map_spec.specs.Cascade.{whole_at}
use Rattle.map_spec.specs.MapTree.{Head, MapNode, MapTree}
use Rattle.reader_spec.specs.World.{World}
use Rattle.branch_copies.specs.Stands.{StandsAt}
use Rattle.branch_copies.proofs.names.scope_names.Given as goal

abbrev pub invariant-loop-at : goal.invariant-loop-at
invariant-loop-at l = record {
  long : length l.names.items ≡ l.at;
  each : (world : World) (parent at : ℕ) (head : Head) (below more : MapTree)
      → l.homes ≡ map (whole_at world) l.nodes → StandsAt l.nodes parent at (MapNode head below more) → at < l.at
      → slice_get l.names.items at ≡ Some (scope_names_of world head below head.kind);
}
