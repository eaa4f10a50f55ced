use Rattle.std.proofs.Common.{take}
use Rattle.key_scopes.specs.Named.{AreNames}
use Rattle.key_scopes.proofs.names.Names.among.Given as goal

abbrev pub invariant-loop-text : goal.invariant-loop-text
invariant-loop-text l = AreNames (take l.text-index l.texts) l.names
