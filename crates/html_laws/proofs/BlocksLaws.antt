-- The HTML of content is markup.
use Rattle.std.specs.Prelude.{◌≡◌, ◌+◌, ℕ, Bool, true, false, List, [], ◌++◌, Option, Some, None, IfSome, nat_le, unwrap_or, codes}
use Rattle.std.specs.Fmt.{decimal}
use Rattle.std.proofs.Common.{refl}
use Rattle.dita_doc.specs.declared.content.Anchor.{Anchor}
use Rattle.dita_doc.specs.declared.content.Mark.{Mark}
use Rattle.dita_doc.specs.declared.fact.Html.{Html}
use Rattle.map_spec.specs.Elements.{has_types}
use Rattle.map_spec.specs.Titles.{id_of}
use Rattle.map_spec.specs.Written.{Element, Written, End, Chars, Node, size}
use Rattle.html_spec.specs.Blocks.{HtmlContext, Form, Tag, Topic, Title, Note, Reference, Image, Cell, SimpleCell, Left, Foreign, Overlay, alt_of, attribute_text, body_html, cell_tag, class_at, columns_in, content_or_label, element_shown, form_shown, href_at, id_attribute, if_some_text, image_tag, label_at, linked_at, in_link, note_class, outside, reference_tag, row_for, row_shown, shown_from, span_text, spans, tagged, title_tag, within_type}
use Rattle.html_spec.specs.Tables.{columns_of, rows_of}
use Rattle.html_laws.specs.Markup.{IsMarkup, attribute_names, element_names, is_among, void_names}
use Rattle.html_laws.proofs.FormLaws.{IsKnownRow, has_known_name, row_known, title_name}
use Rattle.html_laws.proofs.MarkupLaws.{AreAttributes, attributes_beside, markup_beside, markup_element, markup_none, markup_text, markup_void, no_attributes, one_attribute}

-- Attributes

pub attribute_known : (name : List ℕ) (value : Option (List ℕ)) → is_among attribute_names name ≡ true
    → AreAttributes (attribute_text name value)
attribute_known name None known = no_attributes
attribute_known name (Some value) known = one_attribute name value known

-- the id, the class and more
pub start_attributes : (id class : Option (List ℕ)) (more : List ℕ) → AreAttributes more
    → AreAttributes (attribute_text (codes "id") id ++ attribute_text (codes "class") class ++ more)
unfolding attribute_names
start_attributes id class more are =
    attributes_beside (attribute_text (codes "id") id ++ attribute_text (codes "class") class) more
    (attributes_beside (attribute_text (codes "id") id) (attribute_text (codes "class") class)
    (attribute_known (codes "id") id refl) (attribute_known (codes "class") class refl))
    are

pub href_known : (href : Option (List ℕ)) → AreAttributes (attribute_text (codes "href") href)
unfolding attribute_names
href_known href = attribute_known (codes "href") href refl

span_by : (name : List ℕ) (count : ℕ) (few : Bool) → nat_le count 1 ≡ few → is_among attribute_names name ≡ true
    → AreAttributes (span_text name count)
span_by name count true e known = rw e no_attributes
span_by name count false e known = rw e (attribute_known name (Some (decimal count)) known)

pub spans_known : (context : HtmlContext) (element : Element) → AreAttributes (spans context element)
unfolding attribute_names
spans_known context element =
    attributes_beside (span_text (codes "rowspan") (rows_of element))
    (span_text (codes "colspan") (columns_of context.columns element))
    (span_by (codes "rowspan") (rows_of element) _ refl refl)
    (span_by (codes "colspan") (columns_of context.columns element) _ refl refl)

-- Elements

tagged_markup : (context : HtmlContext) (is_topic : Bool) (element : Element) (name class more : List ℕ)
    (content : Html)
    → is_among element_names name ≡ true → AreAttributes more → IsMarkup content.bytes
    → IsMarkup (tagged context is_topic element name class more content).bytes
tagged_markup context is_topic element name class more content known are within =
    markup_element name
    (attribute_text (codes "id") (id_attribute context is_topic (id_of element))
    ++ attribute_text (codes "class") (if_some_text class) ++ more)
    content.bytes known
    (start_attributes (id_attribute context is_topic (id_of element)) (if_some_text class) more are) within

image_markup : (context : HtmlContext) (overlay : Overlay) (place : ℕ) (element : Element) (inside : Written)
    → IsMarkup (image_tag context overlay place element inside)
unfolding void_names attribute_names
image_markup context overlay place element inside =
    let source = Some (unwrap_or (href_at overlay.anchors place) []) in
    let other = Some (alt_of element inside) in
    markup_void (codes "img") _ refl
    (start_attributes (id_attribute context false (id_of element)) (if_some_text (class_at overlay place []))
    (attribute_text (codes "src") source ++ attribute_text (codes "alt") other)
    (attributes_beside (attribute_text (codes "src") source) (attribute_text (codes "alt") other)
    (attribute_known (codes "src") source refl) (attribute_known (codes "alt") other refl)))

linked_markup : (href : Option (List ℕ)) (content : Html) → IsMarkup content.bytes
    → IsMarkup (in_link href content).bytes
unfolding element_names
linked_markup None content within = within
linked_markup (Some href) content within =
    markup_element (codes "a") (attribute_text (codes "href") (Some href)) content.bytes refl (href_known (Some href))
    within

label_markup : (anchors : List Anchor) (place : ℕ) (inside : Written) (content : Html) → IsMarkup content.bytes
    → IsMarkup (content_or_label anchors place inside content).bytes
label_markup anchors place End content within = markup_text (label_at anchors place)
label_markup anchors place (Chars text doc rest) content within = within
label_markup anchors place (Node element inside rest) content within = within

pub cell_name : (head : Bool) → is_among element_names (cell_tag head) ≡ true
unfolding element_names
cell_name true = refl
cell_name false = refl

pub reference_name : (href : Option (List ℕ)) → is_among element_names (reference_tag href) ≡ true
unfolding element_names
reference_name None = refl
reference_name (Some href) = refl

form_markup : (context : HtmlContext) (overlay : Overlay) (place : ℕ) (element : Element) (inside : Written)
    (content : Html) (form : Form) → has_known_name form ≡ true → IsMarkup content.bytes
    → IsMarkup (form_shown context overlay place element inside content form).bytes
unfolding element_names
form_markup context overlay place element inside content (Tag name class) known within =
    tagged_markup context false element name (class_at overlay place class) [] (linked_at overlay.anchors place content)
    known no_attributes
    (linked_markup (href_at overlay.anchors place) content within)
form_markup context overlay place element inside content Topic known within =
    tagged_markup context true element (codes "article") (class_at overlay place []) []
    (linked_at overlay.anchors place content) refl no_attributes
    (linked_markup (href_at overlay.anchors place) content within)
form_markup context overlay place element inside content Title known within =
    tagged_markup context false element (title_tag context.around context.depth) (class_at overlay place []) []
    (linked_at overlay.anchors place content)
    (title_name context.around context.depth) no_attributes
    (linked_markup (href_at overlay.anchors place) content within)
form_markup context overlay place element inside content Note known within =
    tagged_markup context false element (codes "div") (class_at overlay place (note_class element)) []
    (linked_at overlay.anchors place content) refl
    no_attributes (linked_markup (href_at overlay.anchors place) content within)
form_markup context overlay place element inside content Reference known within =
    tagged_markup context false element (reference_tag (href_at overlay.anchors place)) (class_at overlay place [])
    (attribute_text (codes "href") (href_at overlay.anchors place)) content
    (reference_name (href_at overlay.anchors place))
    (href_known (href_at overlay.anchors place)) within
form_markup context overlay place element inside content Image known within =
    image_markup context overlay place element inside
form_markup context overlay place element inside content Cell known within =
    tagged_markup context false element (cell_tag context.head) (class_at overlay place []) (spans context element)
    (linked_at overlay.anchors place content) (cell_name context.head) (spans_known context element)
    (linked_markup (href_at overlay.anchors place) content within)
form_markup context overlay place element inside content SimpleCell known within =
    tagged_markup context false element (cell_tag context.simple_head) (class_at overlay place []) []
    (linked_at overlay.anchors place content)
    (cell_name context.simple_head) no_attributes (linked_markup (href_at overlay.anchors place) content within)
form_markup context overlay place element inside content Left known within = markup_none
form_markup context overlay place element inside content Foreign known within = markup_none

row_markup : (context : HtmlContext) (overlay : Overlay) (place : ℕ) (element : Element) (inside : Written)
    (content : HtmlContext → Html) (row : Option (List ℕ × Form)) → IfSome row IsKnownRow
    → ((within : HtmlContext) → IsMarkup (content within).bytes)
    → IsMarkup (row_shown context overlay place element inside content row).bytes
row_markup context overlay place element inside content None known each =
    let context_in = columns_in element inside context in
    linked_markup (href_at overlay.anchors place) (content_or_label overlay.anchors place inside (content context_in))
    (label_markup overlay.anchors place inside (content context_in) (each context_in))
row_markup context overlay place element inside content (Some row) known each =
    let context_in = columns_in element inside (within_type row.0 element context) in
    form_markup context overlay place element inside (content_or_label overlay.anchors place inside (content context_in))
    row.1
    known (label_markup overlay.anchors place inside (content context_in) (each context_in))

element_markup : (context : HtmlContext) (overlay : Overlay) (place : ℕ) (element : Element) (inside : Written)
    (content : HtmlContext → Html) (typed : Bool) → has_types element ≡ typed
    → ((within : HtmlContext) → IsMarkup (content within).bytes)
    → IsMarkup (element_shown context overlay place element inside content).bytes
element_markup context overlay place element inside content true e each =
    rw e (row_markup context overlay place element inside content (row_for element) (row_known element) each)
element_markup context overlay place element inside content false e each = rw e (each context)

-- Content

nodes_markup : (context : HtmlContext) (overlay : Overlay) (place : ℕ) (nodes : Written)
    → IsMarkup (shown_from context overlay place nodes).bytes
nodes_markup context overlay place End = markup_none
nodes_markup context overlay place (Chars text doc rest) =
    markup_beside _ (shown_from context overlay (place + 1) rest).bytes (markup_text text)
    (nodes_markup context overlay (place + 1) rest)
nodes_markup context overlay place (Node element inside rest) =
    let content = λ (within : HtmlContext). shown_from within overlay (place + 1) inside in
    markup_beside (element_shown context overlay place element inside content).bytes
    (shown_from context overlay (place + 1 + size inside) rest).bytes
    (element_markup context overlay place element inside content (has_types element) refl
    (λ within. nodes_markup within overlay (place + 1) inside))
    (nodes_markup context overlay (place + 1 + size inside) rest)

pub body_markup : (anchors : List Anchor) (marks : List Mark) (nodes : Written)
    → IsMarkup (body_html anchors marks nodes).bytes
unfolding body_html
body_markup anchors marks nodes = nodes_markup outside (record { anchors = anchors; marks = marks }) 0 nodes
