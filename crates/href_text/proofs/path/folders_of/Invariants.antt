use Rattle.std.proofs.Common.{◌≡◌, ◌++◌, length, map}
use denote.Text.{Utf8}
use denote.Shadow.{shadow}
use Rattle.href_text.specs.Joined as spec
use Rattle.href_text.proofs.path.folders_of.Given as goal

abbrev pub invariant-loop-folder : goal.invariant-loop-folder
invariant-loop-folder l = shadow (Utf8 l.rest)
    × (map (λ folder. folder.now) l.folders.items ++ spec.folders_of l.rest ≡ spec.folders_of l.name)

abbrev pub decreases-loop-folder : goal.decreases-loop-folder
decreases-loop-folder l = length l.rest
