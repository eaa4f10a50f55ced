use Rattle.std.proofs.Common.{take}
use Rattle.conref_push.specs.Making.{AreGroups}
use Rattle.conref_push.proofs.pushed_doc.by_place.Given as goal

abbrev pub invariant-loop-push : goal.invariant-loop-push
invariant-loop-push l = AreGroups (take l.push-index l.pushes) l.groups
