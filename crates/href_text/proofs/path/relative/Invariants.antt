use Rattle.std.proofs.Common.{◌≡◌, ◌++◌, length}
use Rattle.href_text.specs.Joined as spec
use Rattle.href_text.proofs.path.relative.Given as goal

abbrev pub invariant-loop-more : goal.invariant-loop-more
invariant-loop-more l = l.path ++ spec.relative_path l.rest l.to ≡ spec.relative_path l.from l.to

abbrev pub decreases-loop-more : goal.decreases-loop-more
decreases-loop-more l = length l.rest
