use Rattle.std.proofs.Common.{◌-◌, ℕ}
use Rattle.map_spec.specs.MapTree.{Head, MapNode, MapTree}
use Rattle.branch_copies.specs.Stands.{IsLeft, StandsAt}
use Rattle.branch_copies.proofs.names.included_map.Given as goal

abbrev pub invariant-loop-child : goal.invariant-loop-child
invariant-loop-child l = (parent : ℕ) (head : Head) (below more : MapTree)
    → StandsAt l.nodes parent l.at (MapNode head below more) → IsLeft l.nodes l.at l.end l.child below

abbrev pub decreases-loop-child : goal.decreases-loop-child
decreases-loop-child l = l.end - l.child
