use Rattle.std.proofs.Common.{◌≡◌, ◌+◌, ◌++◌, length, map}
use Rattle.std.specs.Vec.Iter.{into_iter_items}
use Rattle.map_spec.specs.Scopes.{places, scope_at, scoped, scoped_from}
use Rattle.key_scopes.proofs.made.scoped.Given as goal

abbrev pub invariant-loop-node : goal.invariant-loop-node
invariant-loop-node l = (length l.scoped + length (into_iter_items l.node-iterator) ≡ length l.fn.nodes)
    × (l.places ≡ map (scope_at l.fn.nodes) (places l.fn.nodes)
    → l.scoped ++ scoped_from l.fn.nodes (length l.scoped) (into_iter_items l.node-iterator) ≡ scoped l.fn.nodes)
