-- The ways from a scope into those in it (own): by the names with which a key begins; and what is found by them.
use Rattle.std.specs.Prelude.{◌≡◌, ◌+◌, ◌==◌, ◌&&◌, ◌||◌, ℕ, zero, suc, Bool, true, not, List, [], ◌∷◌, ◌++◌, Option, Some, None, codes, drop, filter, find, is_some, length, map, nat_lt, option_map}
use Rattle.std.specs.List.{All, list_any}
use Rattle.std.specs.Option.{option_or}
use Rattle.dita_doc.specs.declared.plan.Scope.{Scope}
use Rattle.key_scopes.specs.declared.children.ChildName.{ChildName}
use Rattle.key_scopes.specs.declared.search.SearchStep.{SearchStep}
use Rattle.key_scopes.specs.Children.{all_names}
use Rattle.map_spec.specs.Scopes.{behind, first_found}

-- a scope, the place of its name, and what is left of the key
pub record Way : Type 0 where
  pub child : ℕ
  pub rank : ℕ
  pub rest : List ℕ

abbrev pub way_of : SearchStep → Way
way_of step = record { child = step.child; rank = step.rank; rest = step.rest.now }

-- whether a name of a scope stands behind another
abbrev pub is_later : ℕ → ℕ → ChildName → Bool
is_later child rank name = nat_lt child name.child || ((child == name.child) && nat_lt rank name.rank)

-- whether a name stands behind a way, if there is one
abbrev pub is_behind : Option Way → ChildName → Bool
is_behind None name = true
is_behind (Some way) name = is_later way.child way.rank name

-- whether no way stands before a name
abbrev pub is_earlier : Option Way → ChildName → Bool
is_earlier None name = true
is_earlier (Some way) name = not (is_later way.child way.rank name)

abbrev pub leads : ℕ → List ℕ → ChildName → Bool
leads scope key name = (name.parent == scope) && is_some (behind (name.name ++ codes ".") key)

abbrev pub way_in : List ℕ → ChildName → Way
way_in key name = record { child = name.child; rank = name.rank; rest = drop (length name.name + 1) key }

-- the first answer of the ways by some names
abbrev pub answers : (Way → Option ℕ) → List ℕ → List ChildName → Option ℕ
answers try key names = first_found (map (λ name. try (way_in key name)) names)

-- a key that begins with a name of a scope in this one and a dot: of the ways in order the first that leads to an own
-- definition of what is left, or again to one by a way from there; so many names may stand before one another
unfoldable pub qualified_in : ℕ → List Scope → (ℕ → List ℕ → Option ℕ) → ℕ → List ℕ → Option ℕ
qualified_in zero all own_at scope key = None
qualified_in (suc steps) all own_at scope key = answers (λ (way : Way).
    option_or (own_at way.child way.rest) (qualified_in steps all own_at way.child way.rest)) key
    (filter (leads scope key) (all_names all))

abbrev pub has_dot : List ℕ → Bool
has_dot key = list_any (λ b. b == 46) key

-- whether something may be found in a scope for what is left of a key: without a dot only its own definition
abbrev pub may_hold : (ℕ → List ℕ → Option ℕ) → ℕ → List ℕ → Bool
may_hold own_at scope rest = has_dot rest || is_some (own_at scope rest)

-- the first way behind the last one by which something may be found
abbrev pub next_way : List Scope → (ℕ → List ℕ → Option ℕ) → ℕ → List ℕ → Option Way → Option Way
next_way scopes own_at scope key last = option_map (way_in key) (find (λ name. leads scope key name
    && may_hold own_at name.child (way_in key name).rest && is_behind last name)
    (all_names scopes))

-- names by scope and rank, each once
abbrev pub AreInTurn : List ChildName → Type 0
AreInTurn [] = Unit
AreInTurn (name ∷ names) = All (λ other. is_later name.child name.rank other ≡ true) names × AreInTurn names
