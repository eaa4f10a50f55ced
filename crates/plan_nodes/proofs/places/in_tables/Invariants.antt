use Rattle.std.proofs.Common.{◌≡◌, map, take}
use Rattle.map_spec.specs.Scopes.{places}
use Rattle.plan_nodes.specs.Preorder.{HasParentsBefore, is_in_table_at}
use Rattle.plan_nodes.proofs.places.in_tables.Given as goal

abbrev pub invariant-loop-node : goal.invariant-loop-node
invariant-loop-node l = HasParentsBefore l.nodes
    → l.inside.items ≡ map (is_in_table_at l.nodes) (places (take l.node-index l.nodes))
