-- The scopes and what is defined in them, node by node (own): what is known behind so many nodes.
use Rattle.std.specs.Prelude.{◌≡◌, ◌++◌, ◌==◌, ◌&&◌, ℕ, Bool, false, not, List, [], ◌∷◌, Option, length, map, option_map, slice_get, take, unwrap_or, codes, filter, if◌then◌else◌}
use Rattle.std.specs.Borrow.{Bor}
use Rattle.std.specs.List.{filter_map, flat_map}
use Rattle.std.specs.Option.{option_map_or}
use Rattle.dita_doc.specs.declared.fault.Fault.{Fault}
use Rattle.dita_doc.specs.declared.fault.FaultCode.TheVariants as faults
use Rattle.dita_doc.specs.declared.plan.PlanNode.{PlanNode}
use Rattle.dita_doc.specs.declared.plan.Scope.{Scope}
use Rattle.key_scopes.specs.declared.numbering.Numbering.{Numbering}
use Rattle.map_spec.specs.Branches.{words_written}
use Rattle.map_spec.specs.Scopes.{bad_names, begins, good_names, has_scope_name, key_name_faults, keys_defined, node_fault, number_of, places, root_scope, scope_at, scope_begun, scope_faults}
use Rattle.reader_spec.specs.World.{World}

abbrev pub told_at : List Bool → ℕ → Bool
told_at inside at = unwrap_or (slice_get inside at) false

abbrev pub place_in : List ℕ → ℕ → ℕ
place_in places at = unwrap_or (slice_get places at) 0

abbrev pub keys_name : List ℕ
keys_name = codes "keys"

-- A key that a node defines, with the scope, and the level and the place of the node

abbrev pub KeyEntry : Type 0
KeyEntry = List ℕ × ℕ × ℕ × ℕ

abbrev pub entry : ℕ → ℕ → ℕ → List ℕ → KeyEntry
entry scope level place key = (key, scope, level, place)

abbrev pub entry_of : Bor (List ℕ) × ℕ × ℕ × ℕ → KeyEntry
entry_of written = (written.0.now, written.1, written.2, written.3)

abbrev pub entries : List (Bor (List ℕ) × ℕ × ℕ × ℕ) → List KeyEntry
entries written = map entry_of written

-- What one node puts behind what is known of those before it

abbrev pub scope_around : PlanNode → Numbering → ℕ
scope_around node known = place_in known.places.items node.parent

abbrev pub has_name : ℕ → PlanNode → Bool
has_name at node = not (at == 0) && has_scope_name node

abbrev pub scope_of : ℕ → PlanNode → Numbering → ℕ
scope_of at node known = if at == 0 then 0
    else if has_scope_name node then length known.scopes else scope_around node known

abbrev pub scopes_put : ℕ → PlanNode → Numbering → List Scope
scopes_put at node known = if has_name at node
    then record { parent = scope_around node known; node = at; names = good_names node.scope_names } ∷ [] else []

pub record IsScopePut (at : ℕ) (node : PlanNode) (scope : ℕ) (old new : Numbering) : Type 0 where
  pub is : scope ≡ scope_of at node old
  pub scopes : new.scopes ≡ old.scopes ++ scopes_put at node old
  pub faults : new.faults ≡ old.faults ++ scope_faults at node
  pub places : new.places ≡ old.places
  pub written : new.written ≡ old.written

pub record AreKeysPut (at : ℕ) (node : PlanNode) (scope : ℕ) (keys : List (List ℕ)) (old new : Numbering)
    : Type 0 where
  pub scopes : new.scopes ≡ old.scopes
  pub faults : new.faults ≡ old.faults ++ map (node_fault node faults.BadKeyName) (bad_names keys)
  pub places : new.places ≡ old.places
  pub written : entries new.written.items
      ≡ entries old.written.items ++ map (entry scope node.level at) (good_names keys)

-- a scope is begun behind the others
pub record IsBegun (at around : ℕ) (names : List (List ℕ)) (number : ℕ) (old new : Numbering) : Type 0 where
  pub is : number ≡ length old.scopes
  pub scopes : new.scopes ≡ old.scopes ++ record { parent = around; node = at; names = names } ∷ []
  pub faults : new.faults ≡ old.faults
  pub places : new.places ≡ old.places
  pub written : new.written ≡ old.written

-- the keys of a node, if it defines some
abbrev pub keys_written : Bool → Option (List ℕ) → List (List ℕ)
keys_written defines value = if defines then words_written value else []

pub record IsPut (at : ℕ) (node : PlanNode) (keys : List (List ℕ)) (old new : Numbering) : Type 0 where
  pub scopes : new.scopes ≡ old.scopes ++ scopes_put at node old
  pub faults : new.faults ≡ old.faults ++ scope_faults at node ++ map (node_fault node faults.BadKeyName)
      (bad_names keys)
  pub places : new.places.items ≡ old.places.items ++ scope_of at node old ∷ []
  pub written : entries new.written.items
      ≡ entries old.written.items ++ map (entry (scope_of at node old) node.level at) (good_names keys)

-- What is known behind so many nodes

abbrev pub scope_placed : List PlanNode → ℕ → Option Scope
scope_placed nodes at = option_map (scope_begun nodes at) (slice_get nodes at)

abbrev pub scopes_before : List PlanNode → ℕ → List Scope
scopes_before nodes count =
    root_scope ∷ filter_map (scope_placed nodes) (filter (begins nodes) (places (take count nodes)))

abbrev pub faults_at : World → List PlanNode → ℕ → List Fault
faults_at world nodes at = option_map_or
    (λ (node : PlanNode). scope_faults at node ++ key_name_faults world nodes at node) (slice_get nodes at) []

abbrev pub level_at : List PlanNode → ℕ → ℕ
level_at nodes at = option_map_or (λ (node : PlanNode). node.level) (slice_get nodes at) 0

abbrev pub entries_at : World → List PlanNode → ℕ → List KeyEntry
entries_at world nodes at =
    map (entry (scope_at nodes at) (level_at nodes at) at) (keys_defined world nodes at)

pub record AreNumbered (world : World) (nodes : List PlanNode) (count : ℕ) (known : Numbering) : Type 0 where
  pub scopes : known.scopes ≡ scopes_before nodes count
  pub long : length known.scopes ≡ number_of nodes count
  pub faults : known.faults ≡ flat_map (faults_at world nodes) (places (take count nodes))
  pub each : known.places.items ≡ map (scope_at nodes) (places (take count nodes))
  pub written : entries known.written.items ≡ flat_map (entries_at world nodes) (places (take count nodes))

pub record IsNew (known : Numbering) : Type 0 where
  pub scopes : known.scopes ≡ root_scope ∷ []
  pub faults : known.faults ≡ []
  pub places : known.places.items ≡ []
  pub written : known.written.items ≡ []
