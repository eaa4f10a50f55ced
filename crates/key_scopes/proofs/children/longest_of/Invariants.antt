use Rattle.std.proofs.Common.{take}
use Rattle.key_scopes.specs.Children.{AreShort}
use Rattle.key_scopes.proofs.children.longest_of.Given as goal

abbrev pub invariant-loop-own : goal.invariant-loop-own
invariant-loop-own l = AreShort l.longest (take l.own-index l.names)
