use Rattle.std.proofs.Common.{◌≡◌, ◌≤◌, drop}
use Rattle.conref_targets.specs.Around.{entered_all, nothing_around, standing_shown}
use Rattle.conref_targets.proofs.standing.behind.Given as goal

abbrev pub invariant-loop-node : goal.invariant-loop-node
invariant-loop-node l = record {
  small : l.standing.depth ≤ l.node-index;
  same : entered_all l.place (drop l.node-index l.nodes) (standing_shown l.standing)
      ≡ entered_all l.place l.nodes nothing_around;
}
