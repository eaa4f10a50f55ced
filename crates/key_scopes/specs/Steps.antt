-- The order of the ways into scopes (own): by scope, and then by the place of the name among those of the scope; a bound
-- on the steps of a search.
use Rattle.std.specs.Prelude.{◌<◌, ◌+◌, ◌-◌, ◌*◌, ◌^◌, ℕ, Option, Some, None}
use Rattle.key_scopes.specs.declared.children.ChildName.{ChildName}
use Rattle.key_scopes.specs.declared.search.SearchStep.{SearchStep}

abbrev pub order_of : ℕ → ℕ → ℕ
order_of child rank = child * 2 ^ 64 + rank + 1

abbrev pub step_order : SearchStep → ℕ
step_order step = order_of step.child step.rank

abbrev pub name_order : ChildName → ℕ
name_order name = order_of name.child name.rank

-- of the way that was tried last; before the first it is 0
abbrev pub last_order : Option SearchStep → ℕ
last_order None = 0
last_order (Some step) = step_order step

-- the rest of a key gets shorter with each scope, and in one scope the way comes later
abbrev pub left : ℕ → SearchStep → ℕ
left key step = key * 2 ^ 98 + (2 ^ 97 - step_order step)

-- a way behind the last one, by which the rest of the key gets shorter
pub record IsStepBehind (key last rest order : ℕ) : Type 0 where
  pub shorter : rest < key
  pub behind : last < order
  pub low : order < 2 ^ 97
