use Rattle.std.proofs.Common.{◌≡◌, take}
use Rattle.map_spec.specs.Cascade.{spaced}
use Rattle.attr_cascade.specs.Tokens.{texts}
use Rattle.attr_cascade.proofs.tokens.spaced.Given as goal

abbrev pub invariant-loop-at : goal.invariant-loop-at
invariant-loop-at l = l.value ≡ spaced (texts (take l.at l.tokens))
