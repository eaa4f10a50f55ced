-- The search from the root scope down (own): the first answer on the way up, from the outermost scope on.
use Rattle.std.specs.Prelude.{ℕ, zero, suc, List, Option, Some, None, length, nat_lt, option_map, if◌then◌else◌}
use Rattle.std.specs.Option.{option_and_then, option_or}
use Rattle.dita_doc.specs.declared.plan.Scope.{Scope}
use Rattle.key_scopes.specs.declared.definitions.Definition.{Definition}
use Rattle.key_scopes.specs.Above.{around_in}
use Rattle.key_scopes.specs.Ways.{qualified_in}

-- so many scopes around this one may be looked at; the number of a scope around is lower
abbrev pub outermost_up : ℕ → (ℕ → Option ℕ) → List Scope → ℕ → Option ℕ
outermost_up zero answer all scope = answer scope
outermost_up (suc steps) answer all scope =
    option_or (option_and_then (outermost_up steps answer all) (around_in all scope)) (answer scope)

abbrev pub answer_up : (ℕ → Option ℕ) → List Scope → Option ℕ → Option ℕ
answer_up answer all None = None
answer_up answer all (Some scope) = outermost_up scope answer all scope

-- a scope's definition by a qualified key; a name has a byte at least
abbrev pub by_names : List Scope → (ℕ → List ℕ → Option ℕ) → List ℕ → ℕ → Option ℕ
by_names all own_at key scope = qualified_in (length key) all own_at scope key

-- where the search of qualified keys begins: none counts at a scope with an own definition or below it
abbrev pub from_of : List Scope → ℕ → Option Definition → Option ℕ
from_of scopes scope None = Some scope
from_of scopes scope (Some own) = around_in scopes own.scope

-- a scope beyond the table counts as the root scope
abbrev pub scope_within : List Scope → ℕ → ℕ
scope_within scopes scope = if nat_lt scope (length scopes) then scope else 0

abbrev pub node_of : Option Definition → Option ℕ
node_of own = option_map (λ (definition : Definition). definition.node) own
