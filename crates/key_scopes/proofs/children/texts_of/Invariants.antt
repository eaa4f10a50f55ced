use Rattle.std.proofs.Common.{◌≡◌, take}
use Rattle.key_scopes.specs.Children.{names_written}
use Rattle.key_scopes.proofs.children.texts_of.Given as goal

abbrev pub invariant-loop-entry : goal.invariant-loop-entry
invariant-loop-entry l = l.sorted.items ≡ names_written (take l.entry-index l.written)
