-- The cascade of attributes in a map (DITA 1.3, "Cascading of metadata attributes in a DITA map", "Map-to-map cascading
-- behaviors", "The @cascade attribute"). The defaults, and what does not pass, are as said beside them.
use Rattle.std.specs.Prelude.{◌+◌, ◌==◌, ◌&&◌, ◌||◌, ℕ, zero, suc, Bool, true, false, not, List, [], ◌∷◌, ◌++◌, Option, Some, None, map, unwrap_or, slice_get, codes, bytes_eq, if◌then◌else◌}
use Rattle.std.specs.List.{filter_map, list_any}
use Rattle.std.specs.Option.{option_and_then, option_map_or, option_or}
use Rattle.dita_doc.specs.Bytes.{space}
use Rattle.dita_doc.specs.ClassValue.{words_of}
use Rattle.dita_doc.specs.declared.doc.Attribute.{Attribute}
use Rattle.dita_doc.specs.declared.plan.PlanKind.{PlanKind}
use Rattle.dita_doc.specs.declared.plan.PlanKind.TheVariants as kinds
use Rattle.dita_doc.specs.declared.plan.PlanNode.{PlanNode}
use Rattle.ditaval_rules.specs.Verdict.{conditional_names, is_grouped}
use Rattle.reader_spec.specs.World.{World}
use Rattle.map_spec.specs.Elements.{attribute, is_value}
use Rattle.map_spec.specs.Included.{is_table}
use Rattle.map_spec.specs.Judged.{has_element}
use Rattle.map_spec.specs.Written.{Whole, element_in}

-- The walk from a node to the root

-- the places on the walk, the node's own first; a parent stands before its children, so this many steps are enough
abbrev pub steps_up : ℕ → List PlanNode → ℕ → List ℕ
steps_up zero nodes at = []
steps_up (suc steps) nodes at = at ∷ (if at == 0 then []
    else option_map_or (λ (node : PlanNode). steps_up steps nodes node.parent) (slice_get nodes at) [])

abbrev pub places_up : List PlanNode → ℕ → List ℕ
places_up nodes at = steps_up (at + 1) nodes at

abbrev pub walk : List PlanNode → ℕ → List PlanNode
walk nodes at = filter_map (slice_get nodes) (places_up nodes at)

-- What a node's element says

abbrev pub whole_at : World → PlanNode → Option Whole
whole_at world node = if has_element node.kind then element_in world node.doc node.place else None

abbrev pub attribute_at : World → List ℕ → PlanNode → Option (List ℕ)
attribute_at world name node = option_and_then (λ (whole : Whole). attribute name whole.0) (whole_at world node)

abbrev pub is_in_table : List PlanNode → Bool
is_in_table nodes = list_any (λ (node : PlanNode). is_table node.kind) nodes

-- The nearest value

abbrev pub is_map_kind : PlanKind → Bool
is_map_kind kinds.Map = true
is_map_kind _ = false

abbrev pub is_included_kind : PlanKind → Bool
is_included_kind kinds.Included = true
is_included_kind _ = false

abbrev pub is_first_included : List PlanNode → Bool
is_first_included [] = false
is_first_included (node ∷ nodes) = is_included_kind node.kind

-- a node that includes a map passes its format and scope to its own children alone, and not to the map
abbrev pub stops_at : List ℕ → PlanNode → List PlanNode → Bool
stops_at name node around = (bytes_eq name (codes "format") || bytes_eq name (codes "scope"))
    && is_map_kind node.kind && is_first_included around

-- the format of maps passes to no child (own)
abbrev pub stays_behind : List ℕ → Option (List ℕ) → Bool
stays_behind name value = bytes_eq name (codes "format") && is_value (codes "ditamap") value

abbrev pub passed : List ℕ → PlanNode → List PlanNode → Option (List ℕ) → Option (List ℕ)
passed name node around value = if stops_at name node around || stays_behind name value then None else value

-- the nearest value on a walk
abbrev pub nearest : World → List ℕ → List PlanNode → Option (List ℕ)
nearest world name [] = None
nearest world name (node ∷ around) =
    option_or (attribute_at world name node) (passed name node around (nearest world name around))

-- what holds without a value: in a relationship table nothing stands in the contents
abbrev pub default_of : List ℕ → List PlanNode → List ℕ
default_of name nodes =
    if bytes_eq name (codes "toc") then (if is_in_table nodes then codes "no" else codes "yes")
    else if bytes_eq name (codes "format") then codes "dita"
    else if bytes_eq name (codes "scope") then codes "local"
    else if bytes_eq name (codes "cascade") then codes "merge"
    else codes "normal"

abbrev pub cascaded_value : World → List ℕ → List PlanNode → List ℕ
cascaded_value world name nodes = unwrap_or (nearest world name nodes) (default_of name nodes)

-- the attributes whose nearest value counts
abbrev pub nearest_names : List (List ℕ)
nearest_names =
    codes "linking" ∷ codes "toc" ∷ codes "format" ∷ codes "scope" ∷ codes "processing-role" ∷ codes "cascade" ∷ []

-- Conditional attributes

abbrev pub if_not_grouped : List ℕ → Option (List (List ℕ))
if_not_grouped value = if is_grouped value then None else Some (words_of value)

-- a value of groups counts as not written
abbrev pub own_tokens : World → List ℕ → PlanNode → Option (List (List ℕ))
own_tokens world name node = option_and_then if_not_grouped (attribute_at world name node)

abbrev pub with_new : List (List ℕ) → List (List ℕ) → List (List ℕ)
with_new tokens [] = tokens
with_new tokens (own ∷ others) =
    with_new (if list_any (bytes_eq own) tokens then tokens else tokens ++ own ∷ []) others

-- merged, the node's own tokens that are not there yet come behind those above; else its own count alone, if it has any
abbrev pub merged_tokens : Bool → Option (List (List ℕ)) → List (List ℕ) → List (List ℕ)
merged_tokens merges None tokens = tokens
merged_tokens true (Some own) tokens = with_new tokens own
merged_tokens false (Some own) tokens = own

abbrev pub merges : World → List PlanNode → Bool
merges world nodes = not (bytes_eq (cascaded_value world (codes "cascade") nodes) (codes "nomerge"))

abbrev pub tokens_on : World → List ℕ → List PlanNode → List (List ℕ)
tokens_on world name [] = []
tokens_on world name (node ∷ around) =
    merged_tokens (merges world (node ∷ around)) (own_tokens world name node) (tokens_on world name around)

-- The whole

-- texts with a space between them
abbrev pub spaced : List (List ℕ) → List ℕ
spaced [] = []
spaced (text ∷ []) = text
spaced (text ∷ next ∷ texts) = text ++ space ∷ spaced (next ∷ texts)

abbrev pub named_tokens : List ℕ → List (List ℕ) → Option Attribute
named_tokens name [] = None
named_tokens name (token ∷ tokens) = Some (record { name = name; value = spaced (token ∷ tokens) })

-- the values at the start of a walk: each of the nearest, and the conditional ones that have tokens
abbrev pub cascaded_on : World → List PlanNode → List Attribute
cascaded_on world nodes =
    map (λ name. record { name = name; value = cascaded_value world name nodes }) nearest_names
    ++ filter_map (λ name. named_tokens name (tokens_on world name nodes)) conditional_names

abbrev pub cascaded_from : World → List PlanNode → ℕ → List PlanNode → List PlanNode
cascaded_from world nodes at [] = []
cascaded_from world nodes at (node ∷ more) =
    record node { cascaded = cascaded_on world (walk nodes at) } ∷ cascaded_from world nodes (at + 1) more

-- each node with its values
abbrev pub cascaded : World → List PlanNode → List PlanNode
cascaded world nodes = cascaded_from world nodes 0 nodes
