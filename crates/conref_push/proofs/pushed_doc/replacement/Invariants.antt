use Rattle.std.proofs.Common.{◌≡◌, drop}
use Rattle.conref_push.specs.Making.{replacement}
use Rattle.conref_push.proofs.pushed_doc.replacement.Given as goal

abbrev pub invariant-loop-push : goal.invariant-loop-push
invariant-loop-push l = replacement (drop l.push-index l.group) ≡ replacement l.group
