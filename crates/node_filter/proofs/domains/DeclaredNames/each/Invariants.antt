use Rattle.std.proofs.Common.{◌≡◌, ◌++◌, drop, map}
use Rattle.reader_spec.specs.World.{World}
use Rattle.node_filter.specs.Domains.{AreDeclared, names_at, shown}
use Rattle.node_filter.proofs.domains.DeclaredNames.each.Given as goal

abbrev pub invariant-loop-at : goal.invariant-loop-at
invariant-loop-at l = (world : World) → AreDeclared world l.nodes l.self
    → shown l.names ++ map (names_at world) (drop l.at l.nodes) ≡ map (names_at world) l.nodes
