use Rattle.std.proofs.Common.{◌-◌, ◌<◌, ◌≤◌, length, take, drop}
use Rattle.dita_doc.specs.Desk.{IsBelowAll}
use Rattle.dita_doc.specs.Sources.{AreBelow, all_stored}
use Rattle.dita_doc.proofs.blocks.block_for.Given as goal

-- what stands before `low` is below the name, and what stands from `high` on is above it
abbrev pub invariant-loop-high : goal.invariant-loop-high
invariant-loop-high l = record {
  order : l.low < l.high;
  within : l.high ≤ length l.blocks;
  below : AreBelow (all_stored (take l.low l.blocks)) l.name;
  above : IsBelowAll l.name (all_stored (drop l.high l.blocks));
}

abbrev pub decreases-loop-high : goal.decreases-loop-high
decreases-loop-high l = l.high - l.low
