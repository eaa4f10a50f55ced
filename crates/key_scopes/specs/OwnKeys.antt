-- The keys of a scope in the order of its definitions (own): each once, with the node of its first definition.
use Rattle.std.specs.Prelude.{◌+◌, ◌==◌, ◌++◌, ℕ, zero, suc, Bool, not, List, [], ◌∷◌, bytes_eq, filter, map, nat_lt, if◌then◌else◌}
use Rattle.std.specs.List.{flat_map, list_any}
use Rattle.indexmap.specs.IndexMap.{IndexMap}
use Rattle.dita_doc.specs.declared.plan.PlanNode.{PlanNode}
use Rattle.key_scopes.specs.Numbered.{KeyEntry}
use Rattle.map_spec.specs.Scopes.{keys_defined, own_places, places_from, scopes}
use Rattle.reader_spec.specs.World.{World}

-- a key, with the node that defines it
abbrev pub KeyPlace : Type 0
KeyPlace = List ℕ × ℕ

abbrev pub keys_at : World → List PlanNode → ℕ → List KeyPlace
keys_at world nodes at = map (λ key. (key, at)) (keys_defined world nodes at)

-- the definitions of a scope, by level and then by place; a node's keys as it names them
abbrev pub own_definitions : World → List PlanNode → ℕ → List KeyPlace
own_definitions world nodes scope = flat_map (keys_at world nodes) (own_places nodes scope)

-- of each key the first
abbrev pub first_of_each : List KeyPlace → List KeyPlace
first_of_each [] = []
first_of_each (first ∷ more) = first ∷ filter (λ other. not (bytes_eq first.0 other.0)) (first_of_each more)

-- those of all scopes, in preorder
abbrev pub own_keys : World → List PlanNode → List (List KeyPlace)
own_keys world nodes =
    map (λ scope. first_of_each (own_definitions world nodes scope)) (places_from 0 (scopes nodes))

-- The same among entries

-- numbers from one on
abbrev pub numbers : ℕ → ℕ → List ℕ
numbers from zero = []
numbers from (suc count) = from ∷ numbers (from + 1) count

abbrev pub is_at : ℕ → KeyEntry → Bool
is_at level entry = entry.2 == level

-- entries of levels below the count, those of a lower level first
abbrev pub by_level : ℕ → List KeyEntry → List KeyEntry
by_level count entries = flat_map (λ level. filter (is_at level) entries) (numbers 0 count)

abbrev pub is_of : ℕ → KeyEntry → Bool
is_of scope entry = entry.1 == scope

abbrev pub key_place : KeyEntry → KeyPlace
key_place entry = (entry.0, entry.3)

-- those of a scope
abbrev pub in_scope : ℕ → List KeyEntry → List KeyPlace
in_scope scope entries = map key_place (filter (is_of scope) entries)

-- those of so many scopes
abbrev pub rows_by : ℕ → List KeyEntry → List (List KeyPlace)
rows_by scopes entries = map (λ scope. first_of_each (in_scope scope entries)) (numbers 0 scopes)

-- One entry more

abbrev pub rows_of : {S : Type 0} → List (IndexMap (List ℕ) ℕ S) → List (List KeyPlace)
rows_of {S} maps = map (λ (m : IndexMap (List ℕ) ℕ S). m.entries) maps

abbrev pub with_key : KeyPlace → List KeyPlace → List KeyPlace
with_key one row = if list_any (λ (other : KeyPlace). bytes_eq other.0 one.0) row then row else row ++ one ∷ []

abbrev pub with_key_at : ℕ → KeyPlace → List (List KeyPlace) → List (List KeyPlace)
with_key_at scope one [] = []
with_key_at zero one (row ∷ rows) = with_key one row ∷ rows
with_key_at (suc scope) one (row ∷ rows) = row ∷ with_key_at scope one rows

abbrev pub with_entry : ℕ → List (List KeyPlace) → KeyEntry → List (List KeyPlace)
with_entry count rows entry = if nat_lt entry.2 count then with_key_at entry.1 (key_place entry) rows else rows
