use denote.Shadow.{shadow}
use denote.Text.{Utf8}
use Rattle.std.proofs.Common.{◌≡◌, ◌+◌, ℕ, length}
use Rattle.std.specs.BTreeSet as set
use Rattle.std.specs.List.{list_any}
use Rattle.std.specs.Ordering.{nat_cmp}
use Rattle.std.specs.Prelude.{◌==◌}
use Rattle.map_spec.specs.Keys.{chain, chain_from}
use Rattle.reader_spec.specs.World.{World}
use Rattle.key_answers.specs.Seen.{AreOf}
use Rattle.key_answers.proofs.chain.followed.Given as goal

abbrev pub invariant-loop-step : goal.invariant-loop-step
invariant-loop-step l = record {
  text : shadow (Utf8 l.key);
  known : (at : ℕ) → set.contains nat_cmp l.known at ≡ list_any (λ other. other == at) l.met.items;
  same : (world : World) → AreOf world l.defined → (left : ℕ) → left + l._step ≡ length l.defined.nodes.now + 1
      → chain world l.defined.nodes.now l.fn.scope l.fn.key
      ≡ chain_from left world l.defined.nodes.now l.met.items l.scope l.key;
}
