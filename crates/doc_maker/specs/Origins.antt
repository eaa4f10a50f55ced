-- The names of the documents in which nodes were written, each once, and a table of their places.
use Rattle.std.specs.Prelude.{◌≡◌, ℕ, List, ◌++◌, Option, Some, slice_get}
use Rattle.std.specs.BTreeMap.{is_at}
use Rattle.std.specs.Cmp.Lexicographic.{slice_cmp}
use Rattle.std.specs.Map.{lookup}
use Rattle.std.specs.Ordering.{nat_cmp}

abbrev pub origin_place : List (List ℕ × ℕ) → List ℕ → Option ℕ
origin_place table name = lookup (is_at (slice_cmp nat_cmp name)) table

-- the table tells for each name the place where it stands, and for no other name a place
pub record ArePlaces (names : List (List ℕ)) (table : List (List ℕ × ℕ)) : Type 0 where
  pub told : (name : List ℕ) (place : ℕ) → slice_get names place ≡ Some name → origin_place table name ≡ Some place
  pub stands : (name : List ℕ) (place : ℕ) → origin_place table name ≡ Some place → slice_get names place ≡ Some name

-- no name stands at two places
abbrev pub EachOnce : List (List ℕ) → Type 0
EachOnce names = (name : List ℕ) (one other : ℕ) → slice_get names one ≡ Some name
    → slice_get names other ≡ Some name → one ≡ other

-- a name that stands nowhere
abbrev pub IsAbsent : List (List ℕ) → List ℕ → Type 0
IsAbsent names name = (place : ℕ) → ¬ (slice_get names place ≡ Some name)

-- there are the same names at their places, and maybe more behind them
pub record Longer (names longer : List (List ℕ)) : Type 0 where
  pub more : List (List ℕ)
  pub is : longer ≡ names ++ more
