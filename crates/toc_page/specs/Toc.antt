-- What is known of a plan while its contents page is made (own), and what each node writes, as the code has it.
use Rattle.std.specs.Prelude.{◌≡◌, ◌&&◌, ◌||◌, ◌++◌, ℕ, Bool, true, false, not, List, [], ◌∷◌, Option, Some, None, codes, is_some, map, option_map, slice_get, unwrap_or, if◌then◌else◌}
use Rattle.std.specs.List.{flat_map}
use Rattle.std.specs.Option.{option_and_then, option_map_or}
use Rattle.dita_doc.specs.HtmlEscapes.{escaped}
use Rattle.dita_doc.specs.declared.plan.PagePlan.{PagePlan}
use Rattle.dita_doc.specs.declared.plan.Plan.{Plan}
use Rattle.dita_doc.specs.declared.plan.PlanNode.{PlanNode}
use Rattle.dita_doc.specs.declared.plan.Target.{Target}
use Rattle.dita_doc.specs.declared.plan.Target.TheVariants as targets
use Rattle.key_scopes.specs.Made.{IsTableOf}
use Rattle.key_scopes.specs.Table.{Table}
use Rattle.map_spec.specs.Cascade.{whole_at}
use Rattle.map_spec.specs.Elements.{attribute, is_value}
use Rattle.map_spec.specs.Included.{is_reference}
use Rattle.map_spec.specs.Pages.{page_for}
use Rattle.map_spec.specs.Titles.{first_text}
use Rattle.map_spec.specs.Written.{Whole}
use Rattle.html_spec.specs.Blocks.{start_tag}
use Rattle.html_spec.specs.Contents.{cascaded_is, data_text, href_by, is_item, is_local, is_no_target, is_text, label_of, linked, navtitle_element, title_written}
use Rattle.link_spec.specs.Links.{context_of, node_attribute, plan_target}
use Rattle.plan_nodes.specs.Home.{value_at}
use Rattle.plan_nodes.specs.Preorder.{tables_around}
use Rattle.reader_spec.specs.World.{World}
use Rattle.toc_page.specs.Opened.{Stack, before_item, opened, stack_of}
use Rattle.toc_page.specs.declared.item.Toc.{Toc}
use Rattle.toc_page.specs.declared.list.OpenItems.{OpenItems}

-- Keys

abbrev pub is_file : Target → Bool
is_file (targets.File name rest) = true
is_file _ = false

-- a key decides of the label of a node
abbrev pub needs_keys : World → Plan → ℕ → Bool
needs_keys world plan at = is_file (plan_target plan at) && is_some (node_attribute world plan (codes "keyref") at)

abbrev pub needs_keys_in : Plan → List (Option Whole) → ℕ → Bool
needs_keys_in plan homes at = is_file (plan_target plan at) && is_some (value_at homes at (codes "keyref"))

abbrev pub HasTable : World → List PlanNode → Option Table → Type 0
HasTable world nodes None = ⊥
HasTable world nodes (Some table) = IsTableOf world nodes table

-- they are there if a node needs them
pub record AreKeys (world : World) (plan : Plan) (keys : Option Table) : Type 0 where
  pub each : (at : ℕ) → needs_keys world plan at ≡ true → HasTable world plan.nodes keys

-- all that is known of a plan
pub record IsToc (world : World) (toc : Toc) : Type 0 where
  pub homes : toc.homes.now ≡ map (whole_at world) toc.plan.now.nodes
  pub keys : AreKeys world toc.plan.now toc.keys.now
  pub in_tables : toc.in_tables.now ≡ tables_around toc.plan.now.nodes

-- Titles, by elements

abbrev pub navtitle_in : Option Whole → List ℕ
navtitle_in whole = first_text (option_map_or (λ (found : Whole). navtitle_element found.1) whole []
    ∷ unwrap_or (option_and_then (λ (found : Whole). attribute (codes "navtitle") found.0) whole) [] ∷ [])

abbrev pub title_in : Option Whole → List ℕ
title_in whole = option_map_or title_written whole []

-- the title that a node says of itself is locked
abbrev pub is_locked_in : List (Option Whole) → ℕ → Bool
is_locked_in homes at = is_value (codes "yes") (value_at homes at (codes "locktitle"))

-- it is the label
abbrev pub navtitle_counts : Plan → List (Option Whole) → ℕ → List ℕ → Bool
navtitle_counts plan homes at navtitle =
    is_text navtitle && (is_locked_in homes at || not (is_local (plan_target plan at)))

-- Links

-- the name of the page at a place
abbrev pub page_name : Plan → Option ℕ → Option (List ℕ)
page_name plan page =
    option_and_then (λ at. option_map (λ (found : PagePlan). found.name) (slice_get plan.pages at)) page

-- that of the page that a document has for a node
abbrev pub page_named : List PagePlan → Plan → List ℕ → PlanNode → Option (List ℕ)
page_named pages plan name node = page_name plan (page_for pages name (context_of node name))

abbrev pub href_to : List PagePlan → Plan → PlanNode → Target → Option (List ℕ)
href_to pages plan node targets.Nothing = None
href_to pages plan node (targets.Local name reference) = page_named pages plan name node
href_to pages plan node (targets.File name rest) = Some (name ++ rest)
href_to pages plan node (targets.Other value) = Some value

-- Items

-- whether a node is an item, if it has a target or a title
abbrev pub may_be_item : (is_in_table : Bool) → PlanNode → Bool
may_be_item is_in_table node = is_reference node.kind && not is_in_table
    && cascaded_is (codes "processing-role") (codes "normal") node
    && not (cascaded_is (codes "toc") (codes "no") node)

abbrev pub is_told : Plan → ℕ → List ℕ → Bool
is_told plan at navtitle = not (is_no_target (plan_target plan at)) || is_text navtitle

-- what an item writes before the items below it
abbrev pub item_front : World → Plan → ℕ → PlanNode → List ℕ
item_front world plan at node = start_tag (codes "li") (flat_map data_text node.cascaded)
    ++ linked (href_by plan at (plan_target plan at)) (escaped (label_of world plan at node))

-- the same of the node at a place
abbrev pub is_item_at : World → Plan → ℕ → Bool
is_item_at world plan at = option_map_or (is_item world plan at) (slice_get plan.nodes at) false

abbrev pub front_at : World → Plan → ℕ → List ℕ
front_at world plan at = option_map_or (item_front world plan at) (slice_get plan.nodes at) []

abbrev pub end_at : Plan → ℕ → ℕ
end_at plan at = option_map_or (λ (node : PlanNode). node.end) (slice_get plan.nodes at) 0

-- what a node writes, and what is open behind it
abbrev pub text_at : Bool → ℕ → Stack → List ℕ → List ℕ
text_at is_item at stack front = if is_item then before_item at stack ++ front else []

abbrev pub open_at : Bool → ℕ → ℕ → Stack → Stack
open_at is_item at end stack = if is_item then opened at end stack else stack

pub record IsStep (world : World) (plan : Plan) (at : ℕ) (old new : OpenItems) (before after : List ℕ) : Type 0 where
  pub text : after ≡ before ++ text_at (is_item_at world plan at) at (stack_of old) (front_at world plan at)
  pub stack : stack_of new ≡ open_at (is_item_at world plan at) at (end_at plan at) (stack_of old)
