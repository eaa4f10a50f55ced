use Rattle.std.proofs.Common.{◌≡◌, drop}
use Rattle.family_links.specs.Families.{AreFound, first_targets}
use Rattle.family_links.proofs.TargetLaws.{with_rest}
use Rattle.family_links.proofs.families.first_targets.Given as goal

abbrev pub invariant-loop-node : goal.invariant-loop-node
invariant-loop-node l = record {
  found : AreFound l.targets.items l.linked;
  are : with_rest l.targets.items (drop l.node-index l.nodes) ≡ first_targets l.nodes;
}
