use Rattle.std.proofs.Common.{◌≡◌, length, map}
use Rattle.plan_nodes.specs.Ends.{ended_before}
use Rattle.plan_nodes.specs.Preorder.{without_end}
use Rattle.plan_nodes.proofs.places.set_ends.Given as goal

abbrev pub invariant-loop-at : goal.invariant-loop-at
invariant-loop-at l = record {
  same : ended_before l.at l.nodes ≡ ended_before (length l.fn.nodes) (map without_end l.fn.nodes);
  kept : map without_end l.nodes ≡ map without_end l.fn.nodes;
}
