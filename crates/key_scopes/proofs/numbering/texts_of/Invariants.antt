use Rattle.std.proofs.Common.{◌≡◌, take}
use Rattle.key_scopes.specs.Named.{texts}
use Rattle.key_scopes.proofs.numbering.texts_of.Given as goal

abbrev pub invariant-loop-name : goal.invariant-loop-name
invariant-loop-name l = l.texts ≡ texts (take l.name-index l.names)
