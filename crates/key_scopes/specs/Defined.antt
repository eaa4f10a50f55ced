-- The first definitions of keys (own): of the entries in their order the first of each key in each scope.
use Rattle.std.specs.Prelude.{◌≡◌, ◌<◌, ◌≤◌, ◌++◌, ℕ, Bool, true, false, not, List, [], ◌∷◌, Option, Some, None, bytes_eq, filter, is_some, length, nat_lt, slice_get, if◌then◌else◌}
use Rattle.std.specs.Cmp.Lexicographic.{slice_cmp}
use Rattle.std.specs.List.Sorted.{IsPermutation}
use Rattle.std.specs.Option.{option_and_then}
use Rattle.std.specs.Ordering.{is_eq, is_gt, is_lt, nat_cmp, ordering_then}
use Rattle.std.proofs.Common.{Ordering, Less, get_or}
use Rattle.dita_doc.specs.declared.plan.Scope.{Scope}
use Rattle.key_scopes.specs.declared.children.ChildName.{ChildName}
use Rattle.key_scopes.specs.declared.definitions.Definition.{Definition}
use Rattle.key_scopes.specs.Numbered.{KeyEntry}
use Rattle.key_scopes.specs.Above.{AreEndsFrom, AreInPreorder, parent_in}
use Rattle.key_scopes.specs.Children.{AreChildNames}
use Rattle.key_scopes.specs.Outermost.{AreTopped}
use Rattle.key_scopes.specs.OwnKeys.{by_level, rows_by}
use Rattle.key_scopes.specs.Table.{First, Table, first_of, firsts_of, is_first}

abbrev pub first_by : KeyEntry → First
first_by entry = record { key = entry.0; scope = entry.1; node = entry.3 }

-- whether the last one is of the entry's key and scope
abbrev pub is_last_of : List First → KeyEntry → Bool
is_last_of [] entry = false
is_last_of (first ∷ []) entry = is_first entry.1 entry.0 first
is_last_of (first ∷ next ∷ firsts) entry = is_last_of (next ∷ firsts) entry

abbrev pub with_first : List First → KeyEntry → List First
with_first firsts entry = if is_last_of firsts entry then firsts else firsts ++ first_by entry ∷ []

abbrev pub firsts_by : List First → List KeyEntry → List First
firsts_by firsts [] = firsts
firsts_by firsts (entry ∷ entries) = firsts_by (with_first firsts entry) entries

-- The order of first definitions: by key and scope

abbrev pub first_order : First → First → Ordering
first_order a b = ordering_then (slice_cmp nat_cmp a.key b.key) (nat_cmp a.scope b.scope)

abbrev pub AreStrict : List First → Type 0
AreStrict firsts = (i j : ℕ) (d : First) → i < j → j < length firsts
    → first_order (get_or firsts i d) (get_or firsts j d) ≡ Less

-- what is searched for
abbrev pub probe : ℕ → List ℕ → First
probe scope key = record { key = key; scope = scope; node = 0 }

abbrev pub is_below : ℕ → List ℕ → Definition → Bool
is_below scope key definition = is_lt (first_order (first_of definition) (probe scope key))

abbrev pub is_behind : ℕ → List ℕ → Definition → Bool
is_behind scope key definition = is_gt (first_order (first_of definition) (probe scope key))

-- how many do not stand behind one of this key in this scope
abbrev pub count_upto : ℕ → List ℕ → List Definition → ℕ
count_upto scope key definitions = length (filter (λ d. not (is_behind scope key d)) definitions)

-- the definition at a place, if it is of this key in this scope
abbrev pub own_at : List Definition → ℕ → ℕ → List ℕ → Option ℕ
own_at definitions at scope key = option_and_then (λ (definition : Definition).
    if is_eq (first_order (first_of definition) (probe scope key)) then Some definition.node else None)
    (slice_get definitions at)

-- the scope of the definition at a place, if it is of this key
abbrev pub scope_at : List Definition → ℕ → List ℕ → Option ℕ
scope_at definitions at key = option_and_then (λ (definition : Definition).
    if bytes_eq key definition.key then Some definition.scope else None)
    (slice_get definitions at)

-- by the scopes' own definitions of a key: a scope has one, and from another on none before it
pub record IsFirstHolder (own : ℕ → Option ℕ) (from scope : ℕ) : Type 0 where
  pub behind : from ≤ scope
  pub holds : is_some (own scope) ≡ true
  pub first : (other : ℕ) → from ≤ other → other < scope → own other ≡ None

-- the first scope from one on that has one, if any has
abbrev pub IsNextHolder : (ℕ → Option ℕ) → ℕ → Option ℕ → Type 0
IsNextHolder own from None = (other : ℕ) → from ≤ other → own other ≡ None
IsNextHolder own from (Some scope) = IsFirstHolder own from scope

-- the order of entries: by key, scope, level and place
abbrev pub entry_order : KeyEntry → KeyEntry → Ordering
entry_order a b =
    ordering_then (ordering_then (ordering_then (slice_cmp nat_cmp a.0 b.0) (nat_cmp a.1 b.1)) (nat_cmp a.2 b.2))
    (nat_cmp a.3 b.3)

abbrev pub is_entry_before : KeyEntry → KeyEntry → Bool
is_entry_before a b = is_lt (entry_order a b)

abbrev pub AreOrdered : List KeyEntry → Type 0
AreOrdered entries = (i j : ℕ) (d : KeyEntry) → i ≤ j → j < length entries
    → is_entry_before (get_or entries j d) (get_or entries i d) ≡ false

-- no level is beyond the count of nodes
abbrev pub is_level_within : ℕ → KeyEntry → Bool
is_level_within count entry = nat_lt entry.2 count

abbrev pub with_entry : ℕ → List First → KeyEntry → List First
with_entry count firsts entry = if is_level_within count entry then with_first firsts entry else firsts

-- the first definitions among entries in any order
pub record AreFirsts (count : ℕ) (entries : List KeyEntry) (firsts : List First) : Type 0 where
  pub sorted : List KeyEntry
  pub permuted : IsPermutation entries sorted
  pub ordered : AreOrdered sorted
  pub are : firsts ≡ firsts_by [] (filter (is_level_within count) sorted)

-- what halving needs: the definitions and the names of scopes stand in order; and there are keys for each scope
pub record IsInOrder (all : List Scope) (definitions : List Definition) (names : List ChildName) (longest rows : ℕ)
    : Type 0 where
  pub strict : AreStrict (firsts_of definitions)
  pub children : AreChildNames all names longest
  pub long : rows ≡ length all

-- a table of these scopes, with the keys that so many nodes define
pub record IsTableBy (count : ℕ) (all : List Scope) (written : List KeyEntry) (table : Table) : Type 0 where
  pub scopes : table.scopes ≡ all
  pub ends : AreInPreorder (parent_in all) (length all) → AreEndsFrom (parent_in all) (length all) 0 table.ends
  pub topped : AreTopped table.ends table.definitions
  pub children : AreChildNames all table.names table.longest
  pub firsts : AreFirsts count written (firsts_of table.definitions)
  pub own_keys : table.own_keys ≡ rows_by (length all) (by_level count written)
