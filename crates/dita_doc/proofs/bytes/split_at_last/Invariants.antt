use Rattle.std.proofs.Common.{◌≤◌, length, drop}
use Rattle.dita_doc.specs.Cut.{Lacks}
use Rattle.dita_doc.proofs.bytes.split_at_last.Given as goal

abbrev pub invariant-loop-end : goal.invariant-loop-end
invariant-loop-end l = record {
  within : l.end ≤ length l.bytes;
  behind : Lacks l.byte (drop l.end l.bytes);
}

abbrev pub decreases-loop-end : goal.decreases-loop-end
decreases-loop-end l = l.end
