use Rattle.std.proofs.Common.{refl}
use Rattle.std.proofs.lemmas.List.Folds.{flat_map-map}
use Rattle.href_text.proofs.JoinedLaws.{path_by_parts}
use Rattle.href_text.proofs.path.path_of.Goals as goal

pub loop-segment-init : goal.loop-segment-init
loop-segment-init c = rw (c.in_ok-path.ensures, path_by_parts, flat_map-map) refl
