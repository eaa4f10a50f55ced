-- The outermost definition of a key (own): of the definitions in order that of the lowest scope around a scope.
use Rattle.std.specs.Prelude.{◌≡◌, ◌-◌, ◌≤◌, ◌&&◌, ℕ, zero, suc, true, false, List, Option, Some, None, bytes_eq, length, slice_get, take, if◌then◌else◌}
use Rattle.std.specs.Option.{option_and_then, option_map_or}
use Rattle.key_scopes.specs.declared.definitions.Definition.{Definition}
use Rattle.key_scopes.specs.Above.{encloses}

abbrev pub scope_in : List Definition → ℕ → ℕ
scope_in definitions at = option_map_or (λ (definition : Definition). definition.scope) (slice_get definitions at) 0

-- the place of the outermost one for a definition that is put behind the others
abbrev pub top_for : List ℕ → List Definition → List ℕ → ℕ → ℕ
top_for ends definitions key scope = option_map_or (λ (last : Definition).
    if bytes_eq key last.key && encloses ends (scope_in definitions last.top) scope then last.top else length
    definitions)
    (slice_get definitions (length definitions - 1)) (length definitions)

-- each was put behind those before it
abbrev pub AreTopped : List ℕ → List Definition → Type 0
AreTopped ends definitions = (at : ℕ) (definition : Definition) → slice_get definitions at ≡ Some definition
    → definition.top ≡ top_for ends (take at definitions) definition.key definition.scope

-- what a scope encloses encloses all in it
abbrev pub AreNested : List ℕ → Type 0
AreNested ends = (outer middle inner : ℕ) → encloses ends outer middle ≡ true → encloses ends middle inner ≡ true
    → encloses ends outer inner ≡ true

-- the last of so many
abbrev pub last_of : List Definition → ℕ → Option Definition
last_of definitions zero = None
last_of definitions (suc count) = slice_get definitions count

abbrev pub if_around : List ℕ → ℕ → Definition → Option Definition
if_around ends scope top = if encloses ends top.scope scope then Some top else None

abbrev pub top_by : List ℕ → List Definition → ℕ → List ℕ → Definition → Option Definition
top_by ends definitions scope key last = if bytes_eq key last.key
    then option_and_then (if_around ends scope) (slice_get definitions last.top) else None

-- by the last definition that is not behind the key and the scope
abbrev pub outermost_by : List ℕ → List Definition → ℕ → ℕ → List ℕ → Option Definition
outermost_by ends definitions count scope key =
    option_and_then (top_by ends definitions scope key) (last_of definitions count)

pub record IsOutermostAt (ends : List ℕ) (definitions : List Definition) (scope : ℕ) (key : List ℕ) (top : Definition)
    : Type 0 where
  pub at : ℕ
  pub is : slice_get definitions at ≡ Some top
  pub of_key : top.key ≡ key
  pub around : encloses ends top.scope scope ≡ true
  pub least : (place : ℕ) (other : Definition) → slice_get definitions place ≡ Some other → other.key ≡ key
      → encloses ends other.scope scope ≡ true → top.scope ≤ other.scope

-- the outermost definition of the key in this scope or one around it, if there is one
abbrev pub IsOutermost : List ℕ → List Definition → ℕ → List ℕ → Option Definition → Type 0
IsOutermost ends definitions scope key None = (place : ℕ) (other : Definition) → slice_get definitions place
    ≡ Some other
    → other.key ≡ key → encloses ends other.scope scope ≡ false
IsOutermost ends definitions scope key (Some top) = IsOutermostAt ends definitions scope key top
