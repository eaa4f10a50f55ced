-- Key scopes, and the search for a key (DITA 1.3, "Key scopes", "Using keys for addressing", "Effective key definitions",
-- "Addressing keys across scopes"). The order of the search, and which names are good, are our own.
use Rattle.std.specs.Prelude.{◌+◌, ◌==◌, ◌&&◌, ℕ, zero, suc, Bool, true, false, not, List, [], ◌∷◌, ◌++◌, Option, Some, None, count_by, drop, filter, find, is_some, length, map, option_map, slice_get, take, codes, bytes_eq, if◌then◌else◌}
use Rattle.std.specs.List.{filter_map, flat_map, list_any}
use Rattle.std.specs.Option.{option_and_then, option_map_or, option_or}
use Rattle.dita_doc.specs.declared.fault.Fault.{Fault}
use Rattle.dita_doc.specs.declared.fault.FaultCode.{FaultCode}
use Rattle.dita_doc.specs.declared.fault.FaultCode.TheVariants as faults
use Rattle.dita_doc.specs.declared.plan.PlanKind.{PlanKind}
use Rattle.dita_doc.specs.declared.plan.PlanKind.TheVariants as kinds
use Rattle.dita_doc.specs.declared.plan.PlanNode.{PlanNode}
use Rattle.dita_doc.specs.declared.plan.Scope.{Scope}
use Rattle.reader_spec.specs.World.{World}
use Rattle.map_spec.specs.Branches.{each_once, words_written}
use Rattle.map_spec.specs.Cascade.{attribute_at, is_in_table, places_up, walk}

-- Names: `{`, `}`, `[`, `]`, `/`, `#` and `?` stand in none

abbrev pub is_bad_byte : ℕ → Bool
is_bad_byte b = list_any (λ bad. b == bad) (codes "{}[]/#?")

abbrev pub is_good_name : List ℕ → Bool
is_good_name name = not (list_any is_bad_byte name)

abbrev pub good_names : List (List ℕ) → List (List ℕ)
good_names names = each_once (filter is_good_name names)

abbrev pub bad_names : List (List ℕ) → List (List ℕ)
bad_names names = each_once (filter (λ name. not (is_good_name name)) names)

-- a fault of a node stands where its element was written
abbrev pub node_fault : PlanNode → FaultCode → List ℕ → Fault
node_fault node code detail = record { name = node.doc; line = node.line; code = code; detail = detail }

-- Scopes

-- places of a list, from this one on
abbrev pub places_from : {X : Type 0} → ℕ → List X → List ℕ
places_from at [] = []
places_from at (x ∷ xs) = at ∷ places_from (at + 1) xs

abbrev pub places : List PlanNode → List ℕ
places nodes = places_from 0 nodes

abbrev pub has_scope_name : PlanNode → Bool
has_scope_name node = is_some (slice_get (good_names node.scope_names) 0)

-- a node other than the root begins a scope if it has a name for it
abbrev pub begins : List PlanNode → ℕ → Bool
begins nodes at = not (at == 0) && option_map_or has_scope_name (slice_get nodes at) false

-- the scopes are counted in preorder, behind the root scope
abbrev pub number_of : List PlanNode → ℕ → ℕ
number_of nodes at = 1 + count_by has_scope_name (drop 1 (take at nodes))

-- a node belongs to the scope that it begins, or else to that of the nearest node around it that begins one
abbrev pub scope_on : List PlanNode → Option ℕ → ℕ
scope_on nodes None = 0
scope_on nodes (Some at) = number_of nodes at

abbrev pub scope_at : List PlanNode → ℕ → ℕ
scope_at nodes at = scope_on nodes (find (begins nodes) (places_up nodes at))

abbrev pub root_scope : Scope
root_scope = record { parent = 0; node = 0; names = [] }

abbrev pub scope_begun : List PlanNode → ℕ → PlanNode → Scope
scope_begun nodes at node =
    record { parent = scope_at nodes node.parent; node = at; names = good_names node.scope_names }

abbrev pub scopes : List PlanNode → List Scope
scopes nodes = root_scope
    ∷ filter_map (λ at. option_map (scope_begun nodes at) (slice_get nodes at)) (filter (begins nodes) (places nodes))

abbrev pub scoped_from : List PlanNode → ℕ → List PlanNode → List PlanNode
scoped_from nodes at [] = []
scoped_from nodes at (node ∷ more) = record node { scope = scope_at nodes at } ∷ scoped_from nodes (at + 1) more

-- each node with its scope
abbrev pub scoped : List PlanNode → List PlanNode
scoped nodes = scoped_from nodes 0 nodes

-- Definitions

abbrev pub may_define : PlanKind → Bool
may_define kinds.Reference = true
may_define kinds.Included = true
may_define _ = false

abbrev pub keys_of : World → PlanNode → List (List ℕ)
keys_of world node = words_written (attribute_at world (codes "keys") node)

-- the good keys that a node defines; under a relationship table none is defined
abbrev pub keys_defined : World → List PlanNode → ℕ → List (List ℕ)
keys_defined world nodes at = if is_in_table (walk nodes at) then []
    else option_map_or (λ (node : PlanNode). if may_define node.kind then good_names (keys_of world node) else [])
    (slice_get nodes at) []

abbrev pub is_defined_at : World → List PlanNode → List ℕ → ℕ → Bool
is_defined_at world nodes key at = list_any (bytes_eq key) (keys_defined world nodes at)

abbrev pub is_at_level : List PlanNode → ℕ → ℕ → Bool
is_at_level nodes level at = option_map_or (λ (node : PlanNode). node.level == level) (slice_get nodes at) false

abbrev pub is_in_scope : List PlanNode → ℕ → ℕ → Bool
is_in_scope nodes scope at = scope_at nodes at == scope

-- the places of a scope's nodes, those of a lower level first, and then in preorder; no level is beyond the count of nodes
abbrev pub own_places : List PlanNode → ℕ → List ℕ
own_places nodes scope =
    flat_map (λ level. filter (is_at_level nodes level) (filter (is_in_scope nodes scope) (places nodes))) (places nodes)

-- a scope's own definition of a key
abbrev pub own : World → List PlanNode → ℕ → List ℕ → Option ℕ
own world nodes scope key = find (is_defined_at world nodes key) (own_places nodes scope)

-- The search

-- what stands in a text behind a beginning, if it begins so
abbrev pub behind : List ℕ → List ℕ → Option (List ℕ)
behind [] text = Some text
behind (b ∷ front) [] = None
behind (b ∷ front) (c ∷ text) = if b == c then behind front text else None

abbrev pub first_found : {X : Type 0} → List (Option X) → Option X
first_found [] = None
first_found (Some x ∷ others) = Some x
first_found (None ∷ others) = first_found others

abbrev pub is_child_of : ℕ → Scope × ℕ → Bool
is_child_of scope child = not (child.1 == 0) && (child.0.parent == scope)

-- scopes with their numbers
abbrev pub numbered : ℕ → List Scope → List (Scope × ℕ)
numbered at [] = []
numbered at (scope ∷ more) = (scope, at) ∷ numbered (at + 1) more

abbrev pub child_scopes : List PlanNode → ℕ → List (Scope × ℕ)
child_scopes nodes scope = filter (is_child_of scope) (numbered 0 (scopes nodes))

-- a key that begins with a name of a child scope and a dot is the child's; a name has a byte at least, so that so many
-- steps are enough as the key has bytes
unfoldable pub qualified : ℕ → World → List PlanNode → ℕ → List ℕ → Option ℕ
qualified zero world nodes scope key = None
qualified (suc steps) world nodes scope key = first_found (flat_map (λ (child : Scope × ℕ).
    map (λ name. option_and_then (λ rest.
    option_or (own world nodes child.1 rest) (qualified steps world nodes child.1 rest))
    (behind (name ++ codes ".") key)) child.0.names) (child_scopes nodes scope))

abbrev pub parent_of : List PlanNode → ℕ → ℕ
parent_of nodes scope = option_map_or (λ (found : Scope). found.parent) (slice_get (scopes nodes) scope) 0

abbrev pub own_or_qualified : World → List PlanNode → ℕ → List ℕ → Option ℕ
own_or_qualified world nodes scope key =
    option_or (own world nodes scope key) (qualified (length key) world nodes scope key)

-- the definition of a key, searched from the root scope down to this one: first that of the parent, then the scope's own,
-- then that of a child. A parent's number is lower, so that so many steps are enough as the scope's number says
unfoldable pub found_from : ℕ → World → List PlanNode → ℕ → List ℕ → Option ℕ
found_from zero world nodes scope key = own_or_qualified world nodes scope key
found_from (suc steps) world nodes scope key = if scope == 0 then own_or_qualified world nodes scope key
    else option_or (found_from steps world nodes (parent_of nodes scope) key) (own_or_qualified world nodes scope key)

abbrev pub definition_found : World → List PlanNode → ℕ → List ℕ → Option ℕ
definition_found world nodes scope key = found_from scope world nodes scope key

-- Faults

abbrev pub key_name_faults : World → List PlanNode → ℕ → PlanNode → List Fault
key_name_faults world nodes at node =
    if may_define node.kind && not (is_in_table (walk nodes at))
    then map (node_fault node faults.BadKeyName) (bad_names (keys_of world node)) else []

abbrev pub scope_faults : ℕ → PlanNode → List Fault
scope_faults at node =
    if at == 0 then [] else map (node_fault node faults.BadScopeName) (bad_names node.scope_names)

-- each bad name once for each node
abbrev pub name_faults : World → List PlanNode → List Fault
name_faults world nodes = flat_map (λ at. option_map_or
    (λ (node : PlanNode). scope_faults at node ++ key_name_faults world nodes at node) (slice_get nodes at) []) (places nodes)
