use Rattle.std.proofs.Common.{◌≡◌, ◌∷◌, ◌++◌, drop, map}
use Rattle.std.specs.List.{flat_map}
use Rattle.dita_doc.specs.Bytes.{slash}
use Rattle.href_text.specs.Joined as spec
use Rattle.href_text.proofs.path.path_of.Given as goal

abbrev pub invariant-loop-segment : goal.invariant-loop-segment
invariant-loop-segment l = l.path ++ flat_map (λ segment. slash ∷ segment.now) (drop l.segment-index l.others)
    ≡ spec.path_of (l.first ∷ map (λ segment. segment.now) l.others)
