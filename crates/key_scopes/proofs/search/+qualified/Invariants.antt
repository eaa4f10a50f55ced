use Rattle.std.proofs.Common.{◌≡◌, ◌≤◌, ◌<◌, ℕ, Some, length}
use Rattle.std.specs.Option.{option_or}
use Rattle.key_scopes.specs.Found.{own_of}
use Rattle.key_scopes.specs.Rising.{by_names}
use Rattle.key_scopes.specs.Steps as spec
use Rattle.key_scopes.specs.Ways.{way_of}
use Rattle.key_scopes.proofs.WayLaws.{behind_way, by_way}
use Rattle.key_scopes.proofs.search.+qualified.Given as goal

abbrev pub decreases-qualified : goal.decreases-qualified
decreases-qualified l = length l.key.now

pub record Shorter (key most end : ℕ) (Value : Type 0) : Type 0 where
  pub left : most ≤ key
  pub rest : end < most
  pub value : Value

abbrev pub invariant-loop-node : goal.invariant-loop-node
invariant-loop-node l = Shorter (length l.key) (length l.left) (length l.step.rest.now)
    (by_names l.table.scopes (own_of l.table) l.key l.scope
    ≡ option_or (by_way l.table.scopes (own_of l.table) (way_of l.step))
    (behind_way l.table.scopes (own_of l.table) l.around l.left (Some (way_of l.step))))

abbrev pub decreases-loop-node : goal.decreases-loop-node
decreases-loop-node l = spec.left (length l.left) l.step
