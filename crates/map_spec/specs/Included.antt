-- The nodes of a map with its submaps included (DITA 1.3, "DITA maps", "DITA map elements", "Map references and map
-- hierarchies"). The form of a node with a submap, and its faults, are our own.
use Rattle.std.specs.Prelude.{◌+◌, ◌&&◌, ◌||◌, ℕ, zero, suc, Bool, true, false, not, List, [], ◌∷◌, ◌++◌, Option, Some, None, Result, Ok, Err, is_some, nat_le, unwrap_or, codes, bytes_eq, if◌then◌else◌}
use Rattle.std.specs.List.{list_any}
use Rattle.std.specs.Option.{option_and_then}
use Rattle.dita_doc.specs.declared.fault.Fault.{Fault}
use Rattle.dita_doc.specs.declared.fault.FaultCode.{FaultCode}
use Rattle.dita_doc.specs.declared.fault.FaultCode.TheVariants as faults
use Rattle.dita_doc.specs.declared.plan.Expanded.{Expanded}
use Rattle.dita_doc.specs.declared.plan.PlanKind.{PlanKind}
use Rattle.dita_doc.specs.declared.plan.PlanKind.TheVariants as kinds
use Rattle.dita_doc.specs.declared.plan.PlanStop.{PlanStop}
use Rattle.dita_doc.specs.declared.plan.PlanStop.TheVariants as stops
use Rattle.reader_spec.specs.World.{World}
use Rattle.map_spec.specs.Elements.{attribute, class_faults, fault_at, has_value, is_a, is_transparent}
use Rattle.map_spec.specs.MapTree.{Grown, Head, beneath, beside, count, no_growth, plan_nodes, with_faults}
use Rattle.map_spec.specs.Target.{Named, Document, Elsewhere, Unreadable, named_of}
use Rattle.map_spec.specs.Written.{Element, Whole, Written, End, Chars, Node, document, first_place, first_sibling, size}

-- which node an element makes; all other elements are passed over with their content
abbrev pub kind_of : Element → Option PlanKind
kind_of element =
    if is_a (codes "ditavalref-d/ditavalref") element then Some kinds.DitavalRef
    else if is_a (codes "map/topicref") element then Some kinds.Reference
    else if is_a (codes "map/reltable") element then Some kinds.RelTable
    else if is_a (codes "map/relrow") element then Some kinds.RelRow
    else if is_a (codes "map/relcell") element then Some kinds.RelCell
    else None

-- where a node stands: how many maps are included around it, and whether a relationship table is around it
pub record MapAround : Type 0 where
  pub level : ℕ
  pub in_table : Bool

abbrev pub is_table : PlanKind → Bool
is_table kinds.RelTable = true
is_table _ = false

abbrev pub around_below : PlanKind → MapAround → MapAround
around_below kind around = record around { in_table = around.in_table || is_table kind }

-- a node as it is made: without scope names, filters, affixes and cascaded values
abbrev pub new_head : PlanKind → Element → ℕ → ℕ → Head
new_head kind element level place = record {
  kind = kind;
  doc = element.doc;
  place = place;
  line = element.line;
  level = level;
  scope = 0;
  scope_names = [];
  filters = [];
  affixes = [];
  cascaded = [];
}

-- a content reference on a node's element is ignored, with a fault for each
abbrev pub ignored : Element → Option (List ℕ) → List Fault
ignored element None = []
ignored element (Some value) = fault_at element faults.MapConref value ∷ []

abbrev pub ignored_by : List ℕ → Element → List Fault
ignored_by name element = ignored element (attribute name element)

abbrev pub ignored_references : Element → List Fault
ignored_references element = ignored_by (codes "conref") element ++ ignored_by (codes "conkeyref") element

-- a topicref outside a relationship table that is written with the format of maps and an href includes a map
abbrev pub is_reference : PlanKind → Bool
is_reference kinds.Reference = true
is_reference _ = false

abbrev pub includes_map : PlanKind → MapAround → Element → Bool
includes_map kind around element =
    is_reference kind && not around.in_table && has_value (codes "format") (codes "ditamap") element
    && is_some (attribute (codes "href") element)

-- the node of an element, with the submap that it includes before those below it
abbrev pub map_node_made : (Element → Grown) → PlanKind → MapAround → ℕ → Element → Grown → Grown
map_node_made submap kind around place element below =
    with_faults (ignored_references element)
    (if includes_map kind around element
    then beneath (new_head kinds.Included element around.level place) (beside (submap element) below)
    else beneath (new_head kind element around.level place) below)

-- `below` gives the nodes of what the element holds
abbrev pub nodes_by : (Element → Grown) → Option PlanKind → MapAround → ℕ → Element → (MapAround → Grown) → Grown
nodes_by submap None around place element below = no_growth
nodes_by submap (Some kind) around place element below =
    map_node_made submap kind around place element (below (around_below kind around))

abbrev pub nodes_of_element : (Element → Grown) → MapAround → ℕ → Element → (MapAround → Grown) → Grown
nodes_of_element submap around place element below =
    if is_transparent element then with_faults (class_faults element) (below around)
    else nodes_by submap (kind_of element) around place element below

-- the nodes of these siblings, of which the first stands at this place of its document
abbrev pub nodes_among : (Element → Grown) → MapAround → ℕ → Written → Grown
nodes_among submap around place End = no_growth
nodes_among submap around place (Chars text doc rest) = nodes_among submap around (place + 1) rest
nodes_among submap around place (Node element inside rest) =
    beside (nodes_of_element submap around place element (λ below. nodes_among submap below (place + 1) inside))
    (nodes_among submap around (place + 1 + size inside) rest)

-- Submaps

abbrev pub is_map : Whole → Bool
is_map root = is_a (codes "map/map") root.0

-- the root of a document that is a map
abbrev pub if_map : Whole → Option Whole
if_map root = if is_map root then Some root else None

abbrev pub root_in : World → List ℕ → Option Whole
root_in world name = option_and_then first_sibling (document world name)

abbrev pub root_place_in : Option Written → ℕ
root_place_in None = 0
root_place_in (Some nodes) = first_place nodes

-- the place of a document's root
abbrev pub root_place : World → List ℕ → ℕ
root_place world name = root_place_in (document world name)

abbrev pub map_in : World → List ℕ → Option Whole
map_in world name = option_and_then if_map (root_in world name)

abbrev pub fault_alone : Element → FaultCode → List ℕ → Grown
fault_alone element code detail = with_faults (fault_at element code detail ∷ []) no_growth

-- the map of a name stands in the place of its reference, unless it is none or stands around the reference already
abbrev pub submap_found : (Whole → Grown) → List (List ℕ) → Element → List ℕ → Option Whole → Grown
submap_found grow path element name None = fault_alone element faults.MapMissing name
submap_found grow path element name (Some root) =
    if list_any (bytes_eq name) path then fault_alone element faults.MapCycle name else grow root

abbrev pub submap_named : (List ℕ → Whole → Grown) → World → List (List ℕ) → Element → List ℕ → Named → Grown
submap_named grow world path element href (Document name) =
    submap_found (grow name) path element name (map_in world name)
submap_named grow world path element href Elsewhere = no_growth
submap_named grow world path element href Unreadable = fault_alone element faults.BadReference href

abbrev pub submap_of : (List ℕ → Whole → Grown) → World → List (List ℕ) → Element → Grown
submap_of grow world path element =
    let href = unwrap_or (attribute (codes "href") element) [] in
    submap_named grow world path element href (named_of element href)

-- the node of a map's root with all nodes below it; `path` has the names of the maps around it, and its own. The first
-- argument bounds how many maps are included within one another
unfoldable pub map_included : ℕ → World → List (List ℕ) → ℕ → Whole → Grown
map_included zero world path level root = no_growth
map_included (suc fuel) world path level root =
    let submap = submap_of (λ name. map_included fuel world (path ++ name ∷ []) (level + 1)) world path in
    let place = root_place world root.0.doc in
    with_faults (ignored_references root.0)
    (beneath (new_head kinds.Map root.0 level place)
    (nodes_among submap (record { level = level; in_table = false }) (place + 1) root.1))

-- The whole

abbrev pub map_node_limit : ℕ
map_node_limit = 65536

abbrev pub expanded : Grown → Expanded
expanded grown = record { nodes = plan_nodes grown.tree; faults = grown.faults }

-- so many nodes at most, the root counted
abbrev pub limited : ℕ → Grown → Result Grown PlanStop
limited limit grown = if nat_le (count grown.tree) limit then Ok grown else Err stops.TooManyNodes

abbrev pub included_from : ℕ → World → List ℕ → Option Whole → Result Grown PlanStop
included_from limit world map None = Err stops.NoMap
included_from limit world map (Some root) =
    if is_map root then limited limit (map_included (limit + 1) world (map ∷ []) 0 root) else Err stops.NotMap

-- the nodes of a map with all submaps, or why there are none
abbrev pub included : ℕ → World → List ℕ → Result Grown PlanStop
included limit world map = included_from limit world map (root_in world map)
