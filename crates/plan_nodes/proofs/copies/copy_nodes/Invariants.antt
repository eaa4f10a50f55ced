use Rattle.std.proofs.Common.{◌≡◌, take}
use Rattle.plan_nodes.proofs.copies.copy_nodes.Given as goal

abbrev pub invariant-loop-node : goal.invariant-loop-node
invariant-loop-node l = l.copies ≡ take l.node-index l.nodes
