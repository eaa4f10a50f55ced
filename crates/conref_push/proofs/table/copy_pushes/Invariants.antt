use Rattle.std.proofs.Common.{◌≡◌, take}
use Rattle.conref_push.proofs.table.copy_pushes.Given as goal

abbrev pub invariant-loop-push : goal.invariant-loop-push
invariant-loop-push l = l.copies ≡ take l.push-index l.pushes
