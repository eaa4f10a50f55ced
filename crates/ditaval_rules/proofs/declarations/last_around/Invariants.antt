use Rattle.std.proofs.Common.{ℕ, ◌≤◌, ◌<◌}
use Rattle.ditaval_rules.specs.Declarations.{end_at}
use Rattle.ditaval_rules.specs.declared.declarations.DeclaredEntry.{DeclaredEntry}
use Rattle.ditaval_rules.proofs.declarations.last_around.Given as goal

abbrev pub invariant-loop-last : goal.invariant-loop-last
invariant-loop-last l = record {
  within : l.last ≤ l.count;
  passed : (k : ℕ) (d : DeclaredEntry) → l.last ≤ k → k < l.count → end_at l.entries k d ≤ l.place;
}

abbrev pub decreases-loop-last : goal.decreases-loop-last
decreases-loop-last l = l.last
