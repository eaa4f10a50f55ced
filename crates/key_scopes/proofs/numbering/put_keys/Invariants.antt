use Rattle.std.proofs.Common.{◌≡◌, ◌++◌, map, take}
use Rattle.key_scopes.specs.Named.{texts}
use Rattle.key_scopes.specs.Numbered.{entries, entry}
use Rattle.key_scopes.proofs.numbering.put_keys.Given as goal

abbrev pub invariant-loop-name : goal.invariant-loop-name
invariant-loop-name l = entries l.written.items
    ≡ entries l.initial.written.items ++ map (entry l.scope l.level l.place) (texts (take l.name-index l.names))
