-- The contents page of a plan in UTF-8 is UTF-8.
use Rattle.std.specs.Prelude.{◌≡◌, ◌&&◌, ◌||◌, ℕ, zero, suc, Bool, true, false, not, List, [], ◌∷◌, ◌++◌, Option, Some, None, IfSome, filter, length, option_map, slice_get, unwrap_or, codes}
use Rattle.std.specs.List.{flat_map, list_all}
use Rattle.std.specs.Option.{option_and_then, option_map_or}
use Rattle.std.specs.Str.{IsUtf8}
use Rattle.std.proofs.Common.{refl}
use Rattle.std.proofs.lemmas.Str.{IsUtf8-append, IsUtf8-nil}
use Rattle.dita_doc.specs.HtmlEscapes.{escaped}
use Rattle.dita_doc.specs.declared.doc.Attribute.{Attribute}
use Rattle.dita_doc.specs.declared.plan.PagePlan.{PagePlan}
use Rattle.dita_doc.specs.declared.plan.Plan.{Plan}
use Rattle.dita_doc.specs.declared.plan.PlanNode.{PlanNode}
use Rattle.dita_doc.specs.declared.plan.Target.{Target}
use Rattle.dita_doc.specs.declared.plan.Target.TheVariants as targets
use Rattle.ditaval_rules.specs.Verdict.{conditional_names, is_conditional}
use Rattle.reader_spec.specs.World.{World}
use Rattle.map_spec.specs.Cascade.{attribute_at, whole_at}
use Rattle.map_spec.specs.Elements.{attribute, first_child, first_under, text_of}
use Rattle.map_spec.specs.Scopes.{places}
use Rattle.map_spec.specs.Written.{Whole}
use Rattle.html_spec.specs.Blocks.{attribute_text, end_tag, start_tag}
use Rattle.html_spec.specs.Contents.{contents, contents_body, contents_title, data_text, href_by, is_item, is_keyed, is_local, is_locked, is_text, item_text, items, items_from, label_by_target, label_of, linked, list_text, navtitle_element, navtitle_of, node_items, page_named, title_written}
use Rattle.link_spec.specs.Links.{is_child, page_of_node, plan_target}
use Rattle.html_laws.specs.Utf8.{HasUtf8Value, IsUtf8Node, IsUtf8Page, IsUtf8Plan, IsUtf8Target, IsUtf8World}
use Rattle.html_laws.proofs.ContentUtf8Laws.{IsUtf8Whole, utf8_attribute_at, utf8_attribute_of, utf8_child, utf8_first, utf8_text_of, utf8_title_in, utf8_under, utf8_whole_at}
use Rattle.html_laws.proofs.EachLaws.{always, chosen, of_and_then, of_any, of_map_or, of_option, of_option_map, of_place}
use Rattle.html_laws.proofs.MarkUtf8Laws.{conditional_low}
use Rattle.html_laws.proofs.PageUtf8Laws.{text_utf8, utf8_each}
use Rattle.html_laws.proofs.TextUtf8Laws.{is_low, utf8_attribute, utf8_codes, utf8_end, utf8_escaped, utf8_start, utf8_three}
use Rattle.html_laws.proofs.WordLaws.{among_passes}

-- The attributes of an item

data_by : (given : Attribute) (conditional : Bool) → is_conditional given.name ≡ conditional → HasUtf8Value given
    → IsUtf8 (data_text given)
data_by given true e is =
    let low = among_passes (list_all is_low) conditional_names given.name conditional_low e in
    rw e (utf8_attribute (codes "data-" ++ given.name) (Some given.value)
    (IsUtf8-append (codes "data-") given.name (utf8_codes (codes "data-") refl) (utf8_codes given.name low)) is)
data_by given false e is = rw e IsUtf8-nil

-- Parts of items

utf8_linked : (href : Option (List ℕ)) (label : List ℕ) → IfSome href IsUtf8 → IsUtf8 label → IsUtf8 (linked href label)
utf8_linked None label is within = within
utf8_linked (Some href) label is within =
    utf8_three (start_tag (codes "a") (attribute_text (codes "href") (Some href))) label (end_tag (codes "a"))
    (utf8_start (codes "a") (attribute_text (codes "href") (Some href)) (utf8_codes (codes "a") refl)
    (utf8_attribute (codes "href") (Some href) (utf8_codes (codes "href") refl) is)) within
    (utf8_end (codes "a") (utf8_codes (codes "a") refl))

utf8_list : (items : List ℕ) → IsUtf8 items → IsUtf8 (list_text items)
utf8_list [] within = IsUtf8-nil
utf8_list (b ∷ items) within = utf8_three (codes "<ul>") (b ∷ items) (codes "</ul>") (utf8_codes (codes "<ul>") refl)
    within (utf8_codes (codes "</ul>") refl)

utf8_written : (root : Whole) → IsUtf8Whole root → IsUtf8 (title_written root)
utf8_written root is =
    let child = text_of (first_child (codes "topic/title") root.1) in
    let own = unwrap_or (attribute (codes "title") root.0) [] in
    utf8_first (child ∷ own ∷ []) (
      utf8_text_of (first_child (codes "topic/title") root.1) (utf8_child (codes "topic/title") root.1 is.1),
      (
        of_option IsUtf8 (attribute (codes "title") root.0) [] (utf8_attribute_of (codes "title") root.0 is.0.0) IsUtf8-nil,
        tt,
      ),
    )

module _ (world : World) (plan : Plan) (all : IsUtf8World world) (of_plan : IsUtf8Plan plan) where
  -- Titles and labels

  utf8_navtitle : (node : PlanNode) → IsUtf8 node.doc → IsUtf8 (navtitle_of world node)
  utf8_navtitle node named =
      let element = option_map_or (λ (whole : Whole). navtitle_element whole.1) (whole_at world node) [] in
      let written = unwrap_or (attribute_at world (codes "navtitle") node) [] in
      let element_is : IsUtf8 element =
      of_map_or IsUtf8Whole IsUtf8 (λ (whole : Whole). navtitle_element whole.1) (whole_at world node) []
      (λ whole is. utf8_text_of (first_under (codes "map/topicmeta") (codes "topic/navtitle") whole.1)
      (utf8_under (codes "map/topicmeta") (codes "topic/navtitle") whole.1 is.1))
      (utf8_whole_at world node all named) IsUtf8-nil in
      let written_is : IsUtf8 written =
      of_option IsUtf8 (attribute_at world (codes "navtitle") node) []
      (utf8_attribute_at world (codes "navtitle") node all named) IsUtf8-nil in
      utf8_first (element ∷ written ∷ []) (element_is, (written_is, tt))

  utf8_by_target : (node : PlanNode) (target : Target) → IsUtf8 node.doc → IsUtf8Target target
      → IsUtf8 (label_by_target world plan node target)
  utf8_by_target node targets.Nothing named is = IsUtf8-nil
  utf8_by_target node (targets.Local name reference) named is = utf8_title_in world name [] all is.0
  utf8_by_target node (targets.File name rest) named is =
      chosen IsUtf8 (is_keyed world plan node) (name ++ rest)
      (unwrap_or (attribute_at world (codes "href") node) []) (IsUtf8-append name rest is.0 is.1)
      (of_option IsUtf8 (attribute_at world (codes "href") node) [] (utf8_attribute_at world (codes "href") node all named)
      IsUtf8-nil)
  utf8_by_target node (targets.Other value) named is = is

  utf8_target : (at : ℕ) → IsUtf8Target (plan_target plan at)
  utf8_target at =
      of_option IsUtf8Target (slice_get plan.targets at) targets.Nothing (of_place IsUtf8Target plan.targets at of_plan.targets)
      tt

  utf8_item_label : (at : ℕ) (node : PlanNode) → IsUtf8 node.doc → IsUtf8 (label_of world plan at node)
  utf8_item_label at node named =
      chosen IsUtf8
      (is_text (navtitle_of world node) && (is_locked world node || not (is_local (plan_target plan at))))
      (navtitle_of world node) (label_by_target world plan node (plan_target plan at)) (utf8_navtitle node named)
      (utf8_by_target node (plan_target plan at) named (utf8_target at))

  -- Links

  utf8_page_named : (at : ℕ) → IfSome (page_named plan at) IsUtf8
  utf8_page_named at =
      let any : ℕ → Type 0 = λ page. Unit {0} in
      of_and_then any IsUtf8 (λ page. option_map (λ (found : PagePlan). found.name) (slice_get plan.pages page))
      (page_of_node plan at)
      (λ page is. of_option_map IsUtf8Page IsUtf8 (λ (found : PagePlan). found.name) (slice_get plan.pages page)
      (λ found own. own.1) (of_place IsUtf8Page plan.pages page of_plan.pages))
      (always (page_of_node plan at))

  utf8_href_by : (at : ℕ) (target : Target) → IsUtf8Target target → IfSome (href_by plan at target) IsUtf8
  utf8_href_by at targets.Nothing is = tt
  utf8_href_by at (targets.Local name reference) is = utf8_page_named at
  utf8_href_by at (targets.File name rest) is = IsUtf8-append name rest is.0 is.1
  utf8_href_by at (targets.Other value) is = is

  -- Items

  utf8_item : (at : ℕ) (node : PlanNode) (below : List ℕ) → IsUtf8Node node → IsUtf8 below
      → IsUtf8 (item_text world plan at node below)
  utf8_item at node below is within =
      let attributes = flat_map data_text node.cascaded in
      let href = href_by plan at (plan_target plan at) in
      let label = escaped (label_of world plan at node) in
      let start = utf8_start (codes "li") attributes (utf8_codes (codes "li") refl)
      (utf8_each HasUtf8Value data_text node.cascaded (λ given value. data_by given _ refl value) is.1) in
      let link = utf8_linked href label (utf8_href_by at (plan_target plan at) (utf8_target at))
      (utf8_escaped (label_of world plan at node) (utf8_item_label at node is.0)) in
      utf8_three (start_tag (codes "li") attributes ++ linked href label) (list_text below) (end_tag (codes "li"))
      (IsUtf8-append (start_tag (codes "li") attributes) (linked href label) start link) (utf8_list below within)
      (utf8_end (codes "li") (utf8_codes (codes "li") refl))

  utf8_node : (at : ℕ) (below : List ℕ) (node : PlanNode) → IsUtf8Node node → IsUtf8 below
      → IsUtf8 (node_items world plan at below node)
  utf8_node at below node is within = chosen IsUtf8 (is_item world plan at node)
      (item_text world plan at node below) below (utf8_item at node below is within) within

  utf8_items : (steps parent : ℕ) → IsUtf8 (items_from steps world plan parent)
  unfolding items_from
  utf8_items zero parent = IsUtf8-nil
  utf8_items (suc steps) parent =
      let any : ℕ → Type 0 = λ at. Unit {0} in
      let below = λ (at : ℕ). items_from steps world plan at in
      let children = filter (is_child plan parent) (places plan.nodes) in
      utf8_each any (λ at. option_map_or (node_items world plan at (below at)) (slice_get plan.nodes at) []) children
      (λ at is. of_map_or IsUtf8Node IsUtf8 (node_items world plan at (below at)) (slice_get plan.nodes at) []
      (λ node given. utf8_node at (below at) node given (utf8_items steps at))
      (of_place IsUtf8Node plan.nodes at of_plan.nodes) IsUtf8-nil) (of_any any children (λ at. tt))

  -- The page

  utf8_contents_title : IsUtf8 (contents_title world plan)
  utf8_contents_title =
      let root = option_and_then (whole_at world) (slice_get plan.nodes 0) in
      let root_is : IfSome root IsUtf8Whole =
      of_and_then IsUtf8Node IsUtf8Whole (whole_at world) (slice_get plan.nodes 0)
      (λ node is. utf8_whole_at world node all is.0) (of_place IsUtf8Node plan.nodes 0 of_plan.nodes) in
      let title_is : IsUtf8 (option_map_or title_written root []) =
      of_map_or IsUtf8Whole IsUtf8 title_written root [] utf8_written root_is IsUtf8-nil in
      utf8_first (option_map_or title_written root [] ∷ codes "Contents" ∷ [])
      (title_is, (utf8_codes (codes "Contents") refl, tt))

  utf8_contents_body : IsUtf8 (contents_body world plan)
  utf8_contents_body =
      let title = escaped (contents_title world plan) in
      let list = list_text (items world plan) in
      let front = utf8_three (codes "<nav class=\"toc\"><h1>") title (codes "</h1>")
      (utf8_codes (codes "<nav class=\"toc\"><h1>") refl)
      (utf8_escaped (contents_title world plan) utf8_contents_title) (utf8_codes (codes "</h1>") refl) in
      utf8_three (codes "<nav class=\"toc\"><h1>" ++ title ++ codes "</h1>") list (codes "</nav>") front
      (utf8_list (items world plan) (utf8_items (length plan.nodes) 0)) (utf8_codes (codes "</nav>") refl)

  pub contents_utf8 : IsUtf8 (contents world plan)
  unfolding contents
  contents_utf8 =
      text_utf8 (contents_title world plan) (contents_body world plan) [] utf8_contents_title utf8_contents_body tt
