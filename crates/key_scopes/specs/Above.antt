-- Numbers in preorder (own), each with its parent: what stands on the way up from one, and where those in one end.
use Rattle.std.specs.Prelude.{◌≡◌, ◌+◌, ◌-◌, ◌<◌, ◌≤◌, ◌&&◌, ℕ, zero, suc, Bool, List, [], ◌∷◌, Option, Some, None, length, max, nat_le, nat_lt, slice_get, unwrap_or, if◌then◌else◌}
use Rattle.std.specs.Option.{option_and_then, option_map_or}
use Rattle.dita_doc.specs.declared.plan.Scope.{Scope}

-- so many steps up from a number
abbrev pub risen : (ℕ → ℕ) → ℕ → ℕ → ℕ
risen parent zero at = at
risen parent (suc steps) at = risen parent steps (parent at)

-- it stands on the way up, or is where that begins
pub record IsAbove (parent : ℕ → ℕ) (top at : ℕ) : Type 0 where
  pub steps : ℕ
  pub is : risen parent steps at ≡ top

-- in preorder a parent stands before a number, and on the way up from the one before it
pub record AreInPreorder (parent : ℕ → ℕ) (count : ℕ) : Type 0 where
  pub root : parent 0 ≡ 0
  pub before : (at : ℕ) → 0 < at → at < count → parent at < at
  pub above : (at : ℕ) → 0 < at → at < count → IsAbove parent (parent at) (at - 1)

abbrev pub parent_in : List Scope → ℕ → ℕ
parent_in scopes at = option_map_or (λ (scope : Scope). scope.parent) (slice_get scopes at) 0

-- the scope around a scope, if it has one
abbrev pub around_in : List Scope → ℕ → Option ℕ
around_in scopes at = option_and_then (λ (scope : Scope). if nat_lt scope.parent at then Some scope.parent else None)
    (slice_get scopes at)

-- Ends

abbrev pub end_at : List ℕ → ℕ → ℕ
end_at ends at = unwrap_or (slice_get ends at) 0

abbrev pub raised_to : ℕ → ℕ → List ℕ → List ℕ
raised_to at end [] = []
raised_to zero end (first ∷ ends) = max first end ∷ ends
raised_to (suc at) end (first ∷ ends) = first ∷ raised_to at end ends

-- the last of those in a number
pub record IsLastIn (parent : ℕ → ℕ) (count at end : ℕ) : Type 0 where
  pub last : ℕ
  pub within : last < count
  pub above : IsAbove parent at last
  pub is : end ≡ last + 1

-- where those in each number end; the ends of parents are raised for all from a number on
pub record AreEndsFrom (parent : ℕ → ℕ) (count from : ℕ) (ends : List ℕ) : Type 0 where
  pub long : length ends ≡ count
  pub past : (at : ℕ) → at < count → at + 1 ≤ end_at ends at
  pub raised : (at : ℕ) → from ≤ at → 0 < at → at < count → end_at ends at ≤ end_at ends (parent at)
  pub last : (at : ℕ) → at < count → IsLastIn parent count at (end_at ends at)

abbrev pub encloses : List ℕ → ℕ → ℕ → Bool
encloses ends outer inner = nat_le outer inner && nat_lt inner (end_at ends outer)
