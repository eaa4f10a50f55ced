-- Where the range behind a target ends (own), by the place behind the last node of it.
use Rattle.std.specs.Prelude.{◌≡◌, ◌+◌, ◌-◌, ◌≤◌, ℕ, Option, Some, None}
use Rattle.map_spec.specs.Written.{Written, size}
use Rattle.conref_targets.specs.Parts.{among_first}

-- the range goes from one place up to another, among what stands behind
pub record IsUpTo (from : ℕ) (behind meant : Written) (to : ℕ) : Type 0 where
  pub forward : from ≤ to
  pub fits : to ≤ from + size behind
  pub range : meant ≡ among_first (to - from) behind

-- where a range ends, if it has an end
abbrev pub IsRangeEnd : ℕ → Written → Option Written → Option ℕ → Type 0
IsRangeEnd from behind None None = Unit {0}
IsRangeEnd from behind None (Some to) = ⊥
IsRangeEnd from behind (Some meant) None = ⊥
IsRangeEnd from behind (Some meant) (Some to) = IsUpTo from behind meant to
