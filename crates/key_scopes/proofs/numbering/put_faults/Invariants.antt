use Rattle.std.proofs.Common.{◌≡◌, ◌++◌, map, take}
use Rattle.key_scopes.specs.Named.{texts}
use Rattle.map_spec.specs.Scopes.{node_fault}
use Rattle.key_scopes.proofs.numbering.put_faults.Given as goal

abbrev pub invariant-loop-name : goal.invariant-loop-name
invariant-loop-name l = l.faults ≡ l.initial.faults ++ map (node_fault l.node l.code)
    (texts (take l.name-index l.names))
