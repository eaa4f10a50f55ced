-- The contents page (own; DITA 1.3, "DITA maps", "The @toc attribute", "The @locktitle attribute", "navtitle").
use Rattle.std.specs.Prelude.{◌==◌, ◌&&◌, ◌||◌, ℕ, zero, suc, Bool, true, false, not, List, [], ◌∷◌, ◌++◌, Option, Some, None, filter, is_some, length, option_map, slice_get, unwrap_or, codes, bytes_eq, if◌then◌else◌}
use Rattle.std.specs.List.{flat_map, list_any}
use Rattle.std.specs.Option.{option_and_then, option_map_or}
use Rattle.dita_doc.specs.HtmlEscapes.{escaped}
use Rattle.dita_doc.specs.declared.doc.Attribute.{Attribute}
use Rattle.dita_doc.specs.declared.plan.PagePlan.{PagePlan}
use Rattle.dita_doc.specs.declared.plan.Plan.{Plan}
use Rattle.dita_doc.specs.declared.plan.PlanNode.{PlanNode}
use Rattle.dita_doc.specs.declared.plan.Target.{Target}
use Rattle.dita_doc.specs.declared.plan.Target.TheVariants as targets
use Rattle.ditaval_rules.specs.Verdict.{is_conditional}
use Rattle.reader_spec.specs.World.{World}
use Rattle.map_spec.specs.Cascade.{attribute_at, is_in_table, walk, whole_at}
use Rattle.map_spec.specs.Elements.{attribute, first_child, first_under, is_value, text_of}
use Rattle.map_spec.specs.Included.{is_reference}
use Rattle.map_spec.specs.Keys.{key_of}
use Rattle.map_spec.specs.Scopes.{definition_found, places}
use Rattle.map_spec.specs.Titles.{first_text, title_in}
use Rattle.map_spec.specs.Written.{Whole, Written}
use Rattle.html_spec.specs.Blocks.{attribute_text, end_tag, start_tag}
use Rattle.link_spec.specs.Links.{is_child, page_of_node, plan_target}
use Rattle.html_spec.specs.PageHtml.{page_text}

-- What a node says of its own title: its navtitle element comes before the attribute

abbrev pub navtitle_element : Written → List ℕ
navtitle_element inside = text_of (first_under (codes "map/topicmeta") (codes "topic/navtitle") inside)

abbrev pub navtitle_of : World → PlanNode → List ℕ
navtitle_of world node = first_text (option_map_or (λ (whole : Whole). navtitle_element whole.1) (whole_at world node) []
    ∷ unwrap_or (attribute_at world (codes "navtitle") node) [] ∷ [])

abbrev pub is_text : List ℕ → Bool
is_text text = not (length text == 0)

abbrev pub is_no_target : Target → Bool
is_no_target targets.Nothing = true
is_no_target _ = false

-- Items: references outside relationship tables that are no mere resources, are not kept out, and have a target or a title

abbrev pub cascaded_is : List ℕ → List ℕ → PlanNode → Bool
cascaded_is name value node =
    list_any (λ (given : Attribute). bytes_eq given.name name && bytes_eq given.value value) node.cascaded

abbrev pub is_item : World → Plan → ℕ → PlanNode → Bool
is_item world plan at node = is_reference node.kind && not (is_in_table (walk plan.nodes at))
    && cascaded_is (codes "processing-role") (codes "normal") node
    && not (cascaded_is (codes "toc") (codes "no") node)
    && (not (is_no_target (plan_target plan at)) || is_text (navtitle_of world node))

-- Labels

abbrev pub is_locked : World → PlanNode → Bool
is_locked world node = is_value (codes "yes") (attribute_at world (codes "locktitle") node)

abbrev pub is_keyed : World → Plan → PlanNode → Bool
is_keyed world plan node = is_some
    (option_and_then (λ keyref. definition_found world plan.nodes node.scope (key_of keyref))
    (attribute_at world (codes "keyref") node))

-- the label by the target: the title of a document of ours, else the value; a file that a key gives has its name
abbrev pub label_by_target : World → Plan → PlanNode → Target → List ℕ
label_by_target world plan node targets.Nothing = []
label_by_target world plan node (targets.Local name reference) = title_in world name []
label_by_target world plan node (targets.File name rest) =
    if is_keyed world plan node then name ++ rest else unwrap_or (attribute_at world (codes "href") node) []
label_by_target world plan node (targets.Other value) = value

abbrev pub is_local : Target → Bool
is_local (targets.Local name reference) = true
is_local _ = false

-- a navtitle counts if it is locked, or if the target is no document of ours
abbrev pub label_of : World → Plan → ℕ → PlanNode → List ℕ
label_of world plan at node =
    if is_text (navtitle_of world node) && (is_locked world node || not (is_local (plan_target plan at)))
    then navtitle_of world node else label_by_target world plan node (plan_target plan at)

-- Links: to a page, or to a target that is no document of ours

abbrev pub page_named : Plan → ℕ → Option (List ℕ)
page_named plan at = option_and_then (λ page. option_map (λ (found : PagePlan). found.name) (slice_get plan.pages page))
    (page_of_node plan at)

abbrev pub href_by : Plan → ℕ → Target → Option (List ℕ)
href_by plan at targets.Nothing = None
href_by plan at (targets.Local name reference) = page_named plan at
href_by plan at (targets.File name rest) = Some (name ++ rest)
href_by plan at (targets.Other value) = Some value

abbrev pub linked : Option (List ℕ) → List ℕ → List ℕ
linked None label = label
linked (Some href) label =
    start_tag (codes "a") (attribute_text (codes "href") (Some href)) ++ label ++ end_tag (codes "a")

-- An item with the items below it

-- the conditional attributes of a node
abbrev pub data_text : Attribute → List ℕ
data_text given =
    if is_conditional given.name then attribute_text (codes "data-" ++ given.name) (Some given.value) else []

abbrev pub list_text : List ℕ → List ℕ
list_text [] = []
list_text (b ∷ items) = codes "<ul>" ++ (b ∷ items) ++ codes "</ul>"

abbrev pub item_text : World → Plan → ℕ → PlanNode → List ℕ → List ℕ
item_text world plan at node below = start_tag (codes "li") (flat_map data_text node.cascaded)
    ++ linked (href_by plan at (plan_target plan at)) (escaped (label_of world plan at node))
    ++ list_text below ++ end_tag (codes "li")

-- a node that is no item is replaced by the items below it
abbrev pub node_items : World → Plan → ℕ → List ℕ → PlanNode → List ℕ
node_items world plan at below node =
    if is_item world plan at node then item_text world plan at node below else below

-- nodes stand at rising places below one another, so that so many steps are enough as there are nodes
unfoldable pub items_from : ℕ → World → Plan → ℕ → List ℕ
items_from zero world plan parent = []
items_from (suc steps) world plan parent = flat_map (λ at. option_map_or
    (node_items world plan at (items_from steps world plan at)) (slice_get plan.nodes at) [])
    (filter (is_child plan parent) (places plan.nodes))

abbrev pub items : World → Plan → List ℕ
items world plan = items_from (length plan.nodes) world plan 0

-- The title: that of the root map, its attribute, or a word of ours

abbrev pub title_written : Whole → List ℕ
title_written root = first_text (text_of (first_child (codes "topic/title") root.1)
    ∷ unwrap_or (attribute (codes "title") root.0) [] ∷ [])

abbrev pub contents_title : World → Plan → List ℕ
contents_title world plan = first_text (option_map_or title_written
    (option_and_then (whole_at world) (slice_get plan.nodes 0)) [] ∷ codes "Contents" ∷ [])

abbrev pub contents_body : World → Plan → List ℕ
contents_body world plan =
    codes "<nav class=\"toc\"><h1>" ++ escaped (contents_title world plan) ++ codes "</h1>"
    ++ list_text (items world plan) ++ codes "</nav>"

unfoldable pub contents : World → Plan → List ℕ
contents world plan = page_text (contents_title world plan) (contents_body world plan) []
