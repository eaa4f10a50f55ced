use Rattle.std.proofs.Common.{◌≡◌, ◌++◌, drop}
use Rattle.std.specs.List.{flat_map}
use Rattle.family_links.specs.Families.{targets_at}
use Rattle.family_links.proofs.families.Families.targets_from.Given as goal

abbrev pub invariant-loop-place : goal.invariant-loop-place
invariant-loop-place l =
    l.nodes.items ++ flat_map (targets_at l.self.targets.items) (drop l.place-index l.place-items)
    ≡ flat_map (targets_at l.self.targets.items) l.place-items
