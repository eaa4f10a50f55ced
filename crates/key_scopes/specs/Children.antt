-- The names of scopes (own), each with the scope around that which has it: those of a name are found by halving.
use Rattle.std.specs.Prelude.{◌≡◌, ◌+◌, ◌≤◌, ◌==◌, ◌&&◌, ℕ, Bool, false, List, [], ◌∷◌, bytes_eq, filter, length, map}
use Rattle.std.specs.Borrow.{Bor}
use Rattle.std.specs.Cmp.Lexicographic.{slice_cmp}
use Rattle.std.specs.List.{All, flat_map}
use Rattle.std.specs.List.Sorted.{IsSorted}
use Rattle.std.specs.Ordering.{is_eq, is_lt, nat_cmp, ordering_then}
use Rattle.std.proofs.Common.{Ordering}
use Rattle.dita_doc.specs.declared.plan.Scope.{Scope}
use Rattle.key_scopes.specs.declared.children.ChildName.{ChildName}
use Rattle.map_spec.specs.Scopes.{numbered}

-- names of a scope, each with its rank, from this rank on
abbrev pub ranked : ℕ → ℕ → ℕ → List (List ℕ) → List ChildName
ranked parent child rank [] = []
ranked parent child rank (name ∷ names) =
    record { parent = parent; name = name; child = child; rank = rank } ∷ ranked parent child (rank + 1) names

abbrev pub child_names_of : Scope × ℕ → List ChildName
child_names_of child = ranked child.0.parent child.1 0 child.0.names

-- the names of all scopes, by scope and then by their order
abbrev pub all_names : List Scope → List ChildName
all_names scopes = flat_map child_names_of (numbered 0 scopes)

abbrev pub is_named : ℕ → List ℕ → ChildName → Bool
is_named parent name own = (own.parent == parent) && bytes_eq own.name name

-- those of this name within a scope
abbrev pub those_named : ℕ → List ℕ → List ChildName → List ChildName
those_named parent name names = filter (is_named parent name) names

-- The order of names: by parent, name, scope and rank

-- how a name stands to this one within this parent
abbrev pub own_cmp : ℕ → List ℕ → ChildName → Ordering
own_cmp parent name own = ordering_then (nat_cmp own.parent parent) (slice_cmp nat_cmp own.name name)

abbrev pub name_cmp : ChildName → ChildName → Ordering
name_cmp a b = ordering_then (ordering_then (own_cmp b.parent b.name a) (nat_cmp a.child b.child))
    (nat_cmp a.rank b.rank)

abbrev pub is_below : ℕ → List ℕ → ChildName → Bool
is_below parent name own = is_lt (own_cmp parent name own)

abbrev pub is_same : ℕ → List ℕ → ChildName → Bool
is_same parent name own = is_eq (own_cmp parent name own)

abbrev pub AreNotBelow : ℕ → List ℕ → List ChildName → Type 0
AreNotBelow parent name names = All (λ own. is_below parent name own ≡ false) names

abbrev pub AreShort : ℕ → List ChildName → Type 0
AreShort longest names = All (λ (own : ChildName). length own.name ≤ longest) names

-- the names of scopes in this order, of which those of each name are the scopes' own; none is longer than this
pub record AreChildNames (scopes : List Scope) (names : List ChildName) (longest : ℕ) : Type 0 where
  pub named : (parent : ℕ) (name : List ℕ) → those_named parent name names ≡ those_named parent name (all_names scopes)
  pub sorted : IsSorted name_cmp names
  pub short : AreShort longest (all_names scopes)

-- Names as they are sorted

abbrev pub WrittenName : Type 0
WrittenName = ℕ × Bor (List ℕ) × ℕ × ℕ

abbrev pub name_of : WrittenName → ChildName
name_of written = record { parent = written.0; name = written.1.now; child = written.2; rank = written.3 }

abbrev pub names_written : List WrittenName → List ChildName
names_written written = map name_of written
