-- The contents page is a page.
use Rattle.std.specs.Prelude.{◌≡◌, ℕ, zero, suc, Bool, true, false, List, [], ◌∷◌, ◌++◌, Option, Some, None, filter, length, slice_get, codes}
use Rattle.std.specs.List.{flat_map, list_all}
use Rattle.std.specs.Option.{option_map_or}
use Rattle.std.proofs.Common.{refl, sym, ◌∙◌, subst, append_assoc}
use Rattle.dita_doc.specs.HtmlEscapes.{escaped}
use Rattle.dita_doc.specs.declared.doc.Attribute.{Attribute}
use Rattle.dita_doc.specs.declared.plan.Plan.{Plan}
use Rattle.dita_doc.specs.declared.plan.PlanNode.{PlanNode}
use Rattle.dita_doc.proofs.Lists.{joined_five}
use Rattle.ditaval_rules.specs.Verdict.{conditional_names, is_conditional}
use Rattle.reader_spec.specs.World.{World}
use Rattle.map_spec.specs.Scopes.{places}
use Rattle.html_spec.specs.Blocks.{attribute_text}
use Rattle.html_spec.specs.Contents.{contents, contents_body, contents_title, data_text, href_by, is_item, item_text, items, items_from, label_of, linked, list_text, node_items}
use Rattle.link_spec.specs.Links.{is_child, plan_target}
use Rattle.html_laws.specs.Markup.{IsMarkup, IsPage, attribute_names, element_names, is_among}
use Rattle.html_laws.proofs.BlocksLaws.{attribute_known}
use Rattle.html_laws.proofs.MarkupLaws.{AreAttributes, attributes_beside, markup_beside, markup_element, markup_none, markup_text, no_attributes}
use Rattle.html_laws.proofs.PageLaws.{element, markup_each, text_is_page}
use Rattle.html_laws.proofs.WordLaws.{among_passes}

-- The attributes of an item

data_names : list_all (λ name. is_among attribute_names (codes "data-" ++ name)) conditional_names ≡ true
unfolding attribute_names
data_names = refl

data_by : (given : Attribute) (conditional : Bool) → is_conditional given.name ≡ conditional
    → AreAttributes (data_text given)
data_by given true e =
    let known = among_passes (λ name. is_among attribute_names (codes "data-" ++ name)) conditional_names given.name
    data_names e in
    rw e (attribute_known (codes "data-" ++ given.name) (Some given.value) known)
data_by given false e = rw e no_attributes

data_known : (given : List Attribute) → AreAttributes (flat_map data_text given)
data_known [] = no_attributes
data_known (attribute ∷ given) = attributes_beside (data_text attribute) (flat_map data_text given)
    (data_by attribute _ refl) (data_known given)

-- Items

linked_markup : (href : Option (List ℕ)) (label : List ℕ) → IsMarkup label → IsMarkup (linked href label)
unfolding element_names attribute_names
linked_markup None label within = within
linked_markup (Some href) label within =
    markup_element (codes "a") (attribute_text (codes "href") (Some href)) label refl
    (attribute_known (codes "href") (Some href) refl) within

list_markup : (items : List ℕ) → IsMarkup items → IsMarkup (list_text items)
unfolding element_names
list_markup [] within = markup_none
list_markup (b ∷ items) within = markup_element (codes "ul") [] (b ∷ items) refl no_attributes within

item_parts : (start label below end : List ℕ) → start ++ label ++ below ++ end ≡ start ++ (label ++ below) ++ end
item_parts start label below end = simp append_assoc

item_markup : (world : World) (plan : Plan) (at : ℕ) (node : PlanNode) (below : List ℕ) → IsMarkup below
    → IsMarkup (item_text world plan at node below)
unfolding element_names
item_markup world plan at node below within =
    let label = linked (href_by plan at (plan_target plan at)) (escaped (label_of world plan at node)) in
    let label_is = linked_markup (href_by plan at (plan_target plan at)) (escaped (label_of world plan at node))
    (markup_text (label_of world plan at node)) in
    let attributes = flat_map data_text node.cascaded in
    subst IsMarkup
    (sym (item_parts (codes "<" ++ codes "li" ++ attributes ++ codes ">") label (list_text below)
    (codes "</" ++ codes "li" ++ codes ">")))
    (markup_element (codes "li") attributes (label ++ list_text below) refl (data_known node.cascaded)
    (markup_beside label (list_text below) label_is (list_markup below within)))

node_by : (world : World) (plan : Plan) (at : ℕ) (below : List ℕ) (node : PlanNode) (item : Bool)
    → is_item world plan at node ≡ item → IsMarkup below → IsMarkup (node_items world plan at below node)
node_by world plan at below node true e within = rw e (item_markup world plan at node below within)
node_by world plan at below node false e within = rw e within

found_markup : (world : World) (plan : Plan) (at : ℕ) (below : List ℕ) (node : Option PlanNode) → IsMarkup below
    → IsMarkup (option_map_or (node_items world plan at below) node [])
found_markup world plan at below None within = markup_none
found_markup world plan at below (Some node) within = node_by world plan at below node _ refl within

items_markup : (steps : ℕ) (world : World) (plan : Plan) (parent : ℕ) → IsMarkup (items_from steps world plan parent)
unfolding items_from
items_markup zero world plan parent = markup_none
items_markup (suc steps) world plan parent = markup_each (λ at. option_map_or
    (node_items world plan at (items_from steps world plan at)) (slice_get plan.nodes at) [])
    (filter (is_child plan parent) (places plan.nodes))
    (λ at. found_markup world plan at (items_from steps world plan at) (slice_get plan.nodes at)
    (items_markup steps world plan at))

-- The page

nested_body : (a b title c list d : List ℕ)
    → a ++ ((b ++ title ++ c) ++ list) ++ d ≡ a ++ (b ++ (title ++ (c ++ (list ++ d))))
nested_body a b title c list d = simp append_assoc

body_parts : (title list : List ℕ)
    → codes "<nav class=\"toc\"><h1>" ++ title ++ codes "</h1>" ++ list ++ codes "</nav>"
    ≡ element (codes "nav") (attribute_text (codes "class") (Some (codes "toc")))
    (element (codes "h1") [] title ++ list)
body_parts title list =
    joined_five (codes "<nav class=\"toc\"><h1>") title (codes "</h1>") list (codes "</nav>")
    ∙ sym (nested_body (codes "<nav class=\"toc\">") (codes "<h1>") title (codes "</h1>") list (codes "</nav>"))

contents_markup : (world : World) (plan : Plan) → IsMarkup (contents_body world plan)
unfolding element_names attribute_names
contents_markup world plan =
    let title = escaped (contents_title world plan) in
    let list = list_text (items world plan) in
    let heading = markup_element (codes "h1") [] title refl no_attributes (markup_text (contents_title world plan)) in
    let listed = list_markup (items world plan) (items_markup (length plan.nodes) world plan 0) in
    subst IsMarkup (sym (body_parts title list))
    (markup_element (codes "nav") (attribute_text (codes "class") (Some (codes "toc")))
    (element (codes "h1") [] title ++ list) refl (attribute_known (codes "class") (Some (codes "toc")) refl)
    (markup_beside (element (codes "h1") [] title) list heading listed))

pub contents_is_page : (world : World) (plan : Plan) → IsPage (contents world plan)
unfolding contents
contents_is_page world plan =
    text_is_page (contents_title world plan) (contents_body world plan) [] (contents_markup world plan)
