use Rattle.std.proofs.Common.{◌≡◌, ◌<◌, ℕ}
use Rattle.std.specs.Prelude.{false}
use Rattle.toc_page.specs.Toc.{needs_keys_in}
use Rattle.toc_page.proofs.keys.needs_keys.Given as goal

abbrev pub invariant-loop-at : goal.invariant-loop-at
invariant-loop-at l = (before : ℕ) → before < l.at → needs_keys_in l.plan l.homes before ≡ false
