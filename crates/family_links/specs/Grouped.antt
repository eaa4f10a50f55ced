-- The collections of a plan with the nodes that are linked in them (own; DITA 1.3, "The @collection-type attribute").
use Rattle.std.specs.Prelude.{◌≡◌, ◌==◌, ◌&&◌, ◌++◌, ℕ, List, [], Option, Some, None, filter, is_some, map, slice_get, codes, if◌then◌else◌}
use Rattle.std.specs.List.{filter_map, flat_map}
use Rattle.std.specs.Option.{option_and_then, option_map_or, option_to_list}
use Rattle.std.specs.declared.alloc.Global.{Global}
use Rattle.std.specs.declared.vec.Vec.{Vec}
use Rattle.dita_doc.specs.declared.plan.Plan.{Plan}
use Rattle.dita_doc.specs.declared.plan.PlanNode.{PlanNode}
use Rattle.link_groups.specs.LinkNodes.{AreLinkNodes, link_node_at}
use Rattle.link_groups.specs.declared.link_nodes.LinkNode.{LinkNode}
use Rattle.link_groups.specs.declared.link_nodes.LinkNodes.{LinkNodes}
use Rattle.map_spec.specs.Cascade.{is_in_table, walk}
use Rattle.map_spec.specs.Elements.{is_value}
use Rattle.map_spec.specs.Scopes.{places}
use Rattle.link_spec.specs.Links.{is_child, is_collection, node_attribute}
use Rattle.reader_spec.specs.World.{World}
use Rattle.family_links.specs.Lists.{if_there, listed}
use Rattle.family_links.specs.declared.groups.GroupKind.{GroupKind}
use Rattle.family_links.specs.declared.groups.GroupKind.TheVariants.{Sequence, Family}

-- the nodes of a collection: the children of a node that have pages, in order
abbrev pub nodes_below : World → Plan → ℕ → List LinkNode
nodes_below world plan parent =
    filter_map (link_node_at world plan) (filter (is_child plan parent) (places plan.nodes))

-- those of each collection of a kind
abbrev pub groups : World → Plan → List ℕ → List (List LinkNode)
groups world plan value =
    map (nodes_below world plan) (filter (is_collection world plan value) (places plan.nodes))

-- How the children of a node are linked

abbrev pub kind_named : Option (List ℕ) → Option GroupKind
kind_named value = if is_value (codes "sequence") value then Some Sequence
    else if is_value (codes "family") value then Some Family else None

abbrev pub kind_at : World → Plan → ℕ → Option GroupKind
kind_at world plan at = if is_in_table (walk plan.nodes at) then None
    else kind_named (node_attribute world plan (codes "collection-type") at)

abbrev pub kinds_of : World → Plan → List (Option GroupKind)
kinds_of world plan = map (kind_at world plan) (places plan.nodes)

-- what is known of a place; nothing is linked beyond the end
abbrev pub kind_in : List (Option GroupKind) → ℕ → Option GroupKind
kind_in kinds at = option_and_then (λ (kind : Option GroupKind). kind) (slice_get kinds at)

-- The children of the nodes whose children are linked

-- the parent of a node, if its children are linked; the first node has none
abbrev pub parent_in : List (Option GroupKind) → ℕ → PlanNode → Option ℕ
parent_in kinds at node =
    if at == 0 then None else if is_some (kind_in kinds node.parent) then Some node.parent else None

-- a node is put below another, if both were found
abbrev pub put_below : ℕ → Option ℕ → Option LinkNode → List LinkNode
put_below number None found = []
put_below number (Some parent) found = option_map_or (if_there number parent) found []

pub record IsPutBelow (parent : Option ℕ) (found : Option LinkNode) (old new : List (ℕ × Vec LinkNode Global))
    : Type 0 where
  pub each : (number : ℕ) → listed number new ≡ listed number old ++ put_below number parent found

-- the node at a place, if it is a child of this one, whose children are linked
abbrev pub child_at : World → Plan → ℕ → ℕ → List LinkNode
child_at world plan parent at = if is_child plan parent at && is_some (kind_at world plan parent)
    then option_to_list (link_node_at world plan at) else []

-- of the nodes at some places
pub record AreChildren (world : World) (plan : Plan) (at : List ℕ) (entries : List (ℕ × Vec LinkNode Global))
    (nodes : LinkNodes) : Type 0 where
  pub each : (parent : ℕ) → listed parent entries ≡ flat_map (child_at world plan parent) at
  pub kept : AreLinkNodes world plan nodes

abbrev pub AreAllChildren : World → Plan → List (ℕ × Vec LinkNode Global) → LinkNodes → Type 0
AreAllChildren world plan entries nodes = AreChildren world plan (places plan.nodes) entries nodes
