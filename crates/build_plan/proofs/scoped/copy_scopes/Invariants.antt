use Rattle.std.proofs.Common.{◌≡◌, take}
use Rattle.build_plan.proofs.scoped.copy_scopes.Given as goal

abbrev pub invariant-loop-scope : goal.invariant-loop-scope
invariant-loop-scope l = l.copies ≡ take l.scope-index l.scopes
