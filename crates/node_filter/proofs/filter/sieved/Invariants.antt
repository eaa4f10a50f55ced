use Rattle.std.proofs.Common.{◌≡◌, drop, map}
use Rattle.map_spec.specs.Cascade.{whole_at}
use Rattle.reader_spec.specs.World.{World}
use Rattle.node_filter.specs.Domains.{AreDeclared}
use Rattle.node_filter.specs.Sieve.{all_passed, empty}
use Rattle.node_filter.proofs.filter.sieved.Given as goal

abbrev pub invariant-loop-at : goal.invariant-loop-at
invariant-loop-at l = (world : World) → l.elements.homes ≡ map (whole_at world) l.nodes
    → AreDeclared world l.nodes l.elements.declared
    → all_passed world l.table (drop l.at l.nodes) l.sieve ≡ all_passed world l.table l.nodes empty
