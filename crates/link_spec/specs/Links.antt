-- Links between the pages of a plan, by relationship tables and collections (DITA 1.3, "Relationship tables in DITA maps",
-- "The @collection-type attribute", "The @linking attribute"). The order of links, and which are left out, are our own.
use Rattle.std.specs.Prelude.{◌==◌, ◌&&◌, ◌||◌, ℕ, Bool, true, false, not, List, [], ◌∷◌, Option, Some, None, filter, find, is_some, map, option_map, slice_get, unwrap_or, codes, bytes_eq, if◌then◌else◌}
use Rattle.std.specs.List.{filter_map, flat_map, list_any}
use Rattle.std.specs.Option.{option_and_then, option_map_or, option_to_list}
use Rattle.dita_doc.specs.declared.content.LinkKind.{LinkKind}
use Rattle.dita_doc.specs.declared.content.LinkKind.TheVariants as links
use Rattle.dita_doc.specs.declared.content.PageLink.{PageLink}
use Rattle.dita_doc.specs.declared.fault.Fault.{Fault}
use Rattle.dita_doc.specs.declared.fault.FaultCode.TheVariants as faults
use Rattle.dita_doc.specs.declared.plan.Context.{Context}
use Rattle.dita_doc.specs.declared.plan.PageId.{PageId}
use Rattle.dita_doc.specs.declared.plan.PagePlan.{PagePlan}
use Rattle.dita_doc.specs.declared.plan.Plan.{Plan}
use Rattle.dita_doc.specs.declared.plan.PlanKind.{PlanKind}
use Rattle.dita_doc.specs.declared.plan.PlanKind.TheVariants as kinds
use Rattle.dita_doc.specs.declared.plan.PlanNode.{PlanNode}
use Rattle.dita_doc.specs.declared.plan.Target.{Target}
use Rattle.dita_doc.specs.declared.plan.Target.TheVariants as targets
use Rattle.href_text.specs.Joined.{relative_path}
use Rattle.reader_spec.specs.World.{World}
use Rattle.map_spec.specs.Cascade.{attribute_at, cascaded_value, is_in_table, places_up, walk}
use Rattle.map_spec.specs.Elements.{is_value}
use Rattle.map_spec.specs.Pages.{local_name, page_for}
use Rattle.map_spec.specs.Scopes.{node_fault, places}
use Rattle.map_spec.specs.Titles.{title_in}

-- Pages of nodes

-- what sets a node's page apart from others of its document
abbrev pub context_of : PlanNode → List ℕ → PageId
context_of node name =
    record { doc = name; scope = node.scope; filters = node.filters; affixes = node.affixes }

-- the document of a plan's map, as one of its nodes knows it
abbrev pub map_of : Plan → PlanNode → List ℕ
map_of plan node = option_map_or (λ (root : PlanNode). root.doc) (slice_get plan.nodes 0) node.doc

-- where a document is used by a node of a plan: the map is the plan's, and no DITAVAL is named
abbrev pub use_of : Plan → PlanNode → List ℕ → Context
use_of plan node name =
    record { map = map_of plan node; val = None; page = context_of node name; name = name }

abbrev pub plan_target : Plan → ℕ → Target
plan_target plan at = unwrap_or (slice_get plan.targets at) targets.Nothing

-- the page of a reference to a DITA document
abbrev pub page_of_node : Plan → ℕ → Option ℕ
page_of_node plan at = option_and_then (λ name. option_and_then
    (λ (node : PlanNode). page_for plan.pages name (context_of node name)) (slice_get plan.nodes at))
    (local_name (plan_target plan at))

abbrev pub has_page : Plan → ℕ → Bool
has_page plan at = is_some (page_of_node plan at)

abbrev pub is_page_at : Plan → ℕ → ℕ → Bool
is_page_at plan page at = option_map_or (λ own. own == page) (page_of_node plan at) false

-- Nodes beside one another

abbrev pub node_attribute : World → Plan → List ℕ → ℕ → Option (List ℕ)
node_attribute world plan name at = option_and_then (attribute_at world name) (slice_get plan.nodes at)

abbrev pub has_node_value : World → Plan → List ℕ → List ℕ → ℕ → Bool
has_node_value world plan name value at = is_value value (node_attribute world plan name at)

abbrev pub is_child : Plan → ℕ → ℕ → Bool
is_child plan parent at =
    not (at == 0) && option_map_or (λ (node : PlanNode). node.parent == parent) (slice_get plan.nodes at) false

-- the children of a node that have pages, in order
abbrev pub children_with_pages : Plan → ℕ → List ℕ
children_with_pages plan parent =
    filter (λ at. is_child plan parent at && has_page plan at) (places plan.nodes)

-- the collections outside relationship tables
abbrev pub is_collection : World → Plan → List ℕ → ℕ → Bool
is_collection world plan value at =
    has_node_value world plan (codes "collection-type") value at && not (is_in_table (walk plan.nodes at))

abbrev pub collections : World → Plan → List ℕ → List (List ℕ)
collections world plan value =
    map (children_with_pages plan) (filter (is_collection world plan value) (places plan.nodes))

-- one stands right before the other
abbrev pub are_next : ℕ → ℕ → List ℕ → Bool
are_next one other [] = false
are_next one other (at ∷ []) = false
are_next one other (at ∷ next ∷ more) = ((at == one) && (next == other)) || are_next one other (next ∷ more)

abbrev pub is_among : ℕ → List ℕ → Bool
is_among at all = list_any (λ other. other == at) all

abbrev pub are_siblings : ℕ → ℕ → List ℕ → Bool
are_siblings one other all = not (one == other) && is_among one all && is_among other all

-- Relationship tables

abbrev pub is_kind_at : Plan → (PlanKind → Bool) → ℕ → Bool
is_kind_at plan is_kind at = option_map_or (λ (node : PlanNode). is_kind node.kind) (slice_get plan.nodes at) false

abbrev pub is_row : PlanKind → Bool
is_row kinds.RelRow = true
is_row _ = false

abbrev pub is_cell : PlanKind → Bool
is_cell kinds.RelCell = true
is_cell _ = false

abbrev pub rows : Plan → List ℕ
rows plan = filter (is_kind_at plan is_row) (places plan.nodes)

-- the cell of a row below which a node stands
abbrev pub cell_of : Plan → ℕ → ℕ → Option ℕ
cell_of plan row at = find (λ cell. not (cell == at) && is_child plan row cell && is_kind_at plan is_cell cell)
    (places_up plan.nodes at)

-- nodes of different cells of a row, or of one cell that is a family
abbrev pub are_in_cells : World → Plan → Option ℕ → Option ℕ → Bool
are_in_cells world plan None cell = false
are_in_cells world plan (Some cell) None = false
are_in_cells world plan (Some cell) (Some other) =
    not (cell == other) || has_node_value world plan (codes "collection-type") (codes "family") cell

abbrev pub are_related_in : World → Plan → ℕ → ℕ → ℕ → Bool
are_related_in world plan one other row =
    not (one == other) && are_in_cells world plan (cell_of plan row one) (cell_of plan row other)

-- Which node links to which

abbrev pub cascaded_at : World → Plan → List ℕ → ℕ → List ℕ
cascaded_at world plan name at = cascaded_value world name (walk plan.nodes at)

abbrev pub is_one_of : List (List ℕ) → List ℕ → Bool
is_one_of values value = list_any (bytes_eq value) values

-- one may link away from its page, and the other may be linked to
abbrev pub may_link : World → Plan → ℕ → ℕ → Bool
may_link world plan from to =
    is_one_of (codes "normal" ∷ codes "sourceonly" ∷ []) (cascaded_at world plan (codes "linking") from)
    && is_one_of (codes "normal" ∷ codes "targetonly" ∷ []) (cascaded_at world plan (codes "linking") to)

abbrev pub links_as : World → Plan → LinkKind → ℕ → ℕ → Bool
links_as world plan links.Previous from to =
    list_any (are_next to from) (collections world plan (codes "sequence"))
links_as world plan links.Next from to =
    list_any (are_next from to) (collections world plan (codes "sequence"))
links_as world plan links.Sibling from to =
    list_any (are_siblings from to) (collections world plan (codes "family"))
links_as world plan links.Related from to = list_any (are_related_in world plan from to) (rows plan)

-- The links of a page: pairs of a node of the page and a node of another, by kind, then by the node linked to, then by the
-- node that links; to each page once

-- a link to a page
pub record LinkTo : Type 0 where
  pub kind : LinkKind
  pub page : ℕ

abbrev pub link_to : World → Plan → ℕ → LinkKind → ℕ → ℕ → Option LinkTo
link_to world plan page kind to from =
    if is_page_at plan page from && links_as world plan kind from to && may_link world plan from to
    then option_and_then (λ other. if other == page then None else Some (record { kind = kind; page = other }))
    (page_of_node plan to) else None

abbrev pub links_of_kind : World → Plan → ℕ → LinkKind → List LinkTo
links_of_kind world plan page kind = flat_map (λ to.
    filter_map (link_to world plan page kind to) (places plan.nodes)) (places plan.nodes)

abbrev pub to_each_once : List LinkTo → List LinkTo
to_each_once [] = []
to_each_once (link ∷ more) = link ∷ filter (λ other. not (other.page == link.page)) (to_each_once more)

abbrev pub page_link : World → Plan → PagePlan → LinkTo → Option PageLink
page_link world plan page link = option_map (λ (other : PagePlan). record {
  kind = link.kind;
  href = relative_path page.name other.name;
  label = title_in world other.id.doc [];
}) (slice_get plan.pages link.page)

abbrev pub page_links : World → Plan → ℕ → List LinkTo → List PageLink
page_links world plan page all = option_map_or
    (λ own. filter_map (page_link world plan own) (to_each_once all)) (slice_get plan.pages page) []

-- by collections
abbrev pub family_links : World → Plan → ℕ → List PageLink
family_links world plan page = page_links world plan page
    (flat_map (links_of_kind world plan page) (links.Previous ∷ links.Next ∷ links.Sibling ∷ []))

-- by relationship tables
abbrev pub row_links : World → Plan → ℕ → List PageLink
row_links world plan page = page_links world plan page (links_of_kind world plan page links.Related)

-- a reference in a cell to a DITA document without a page is a fault of every page
abbrev pub lost_in : Plan → ℕ → ℕ → List Fault
lost_in plan row at = if is_some (cell_of plan row at) && not (has_page plan at)
    then option_to_list (option_and_then (λ name. option_map
    (λ node. node_fault node faults.LinkNoPage name) (slice_get plan.nodes at)) (local_name (plan_target plan at))) else []

abbrev pub row_faults : Plan → List Fault
row_faults plan = flat_map (λ row. flat_map (lost_in plan row) (places plan.nodes)) (rows plan)
