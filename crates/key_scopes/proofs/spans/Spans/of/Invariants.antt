use Rattle.std.proofs.Common.{◌≡◌, ◌+◌, ◌<◌, ℕ, length}
use Rattle.key_scopes.specs.Above.{AreEndsFrom, end_at, parent_in}
use Rattle.key_scopes.proofs.spans.Spans.of.Given as goal

abbrev pub invariant-loop-at : goal.invariant-loop-at
invariant-loop-at l = record {
  long : length l.ends.items ≡ l.at;
  each : (place : ℕ) → place < l.at → end_at l.ends.items place ≡ place + 1;
}

abbrev pub invariant-loop-at-2 : goal.invariant-loop-at-2
invariant-loop-at-2 l = parent_in l.scopes 0 ≡ 0
    → ((at : ℕ) → 0 < at → at < length l.scopes → parent_in l.scopes at < at)
    → AreEndsFrom (parent_in l.scopes) (length l.scopes) l.at l.ends.items
