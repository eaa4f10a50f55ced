use Rattle.std.proofs.Common.{◌≡◌, ◌++◌, drop, map, take}
use Rattle.plan_nodes.specs.Preorder.{without_end}
use Rattle.plan_nodes.proofs.places.clear_ends.Given as goal

abbrev pub invariant-loop-node : goal.invariant-loop-node
invariant-loop-node l =
    l.nodes ≡ map without_end (take l.node-index l.fn.nodes) ++ drop l.node-index l.fn.nodes
