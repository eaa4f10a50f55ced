-- The HTML of content in UTF-8 is UTF-8.
use Rattle.std.specs.Prelude.{◌≡◌, ◌+◌, ℕ, Bool, true, false, List, [], ◌∷◌, ◌++◌, Option, Some, None, IfSome, filter, nat_le, unwrap_or, codes}
use Rattle.std.specs.Fmt.{decimal}
use Rattle.std.specs.List.{AllByRecursion, flat_map}
use Rattle.std.specs.Option.{option_and_then, option_to_list}
use Rattle.std.specs.Str.{IsUtf8}
use Rattle.std.proofs.Common.{refl}
use Rattle.std.proofs.lemmas.Str.{IsUtf8-append, IsUtf8-nil}
use Rattle.dita_doc.specs.HtmlEscapes.{escaped}
use Rattle.dita_doc.specs.declared.content.Anchor.{Anchor}
use Rattle.dita_doc.specs.declared.content.Mark.{Mark}
use Rattle.dita_doc.specs.declared.fact.Html.{Html}
use Rattle.map_spec.specs.Elements.{attribute, first_child, has_types, text_of}
use Rattle.map_spec.specs.Titles.{id_of}
use Rattle.map_spec.specs.Written.{Element, Written, End, Chars, Node, size}
use Rattle.html_spec.specs.Blocks.{HtmlContext, Form, Tag, Topic, Title, Note, Reference, Image, Cell, SimpleCell, Left, Foreign, Overlay, alt_of, anchor_at, attribute_text, body_html, cell_tag, class_at, columns_in, content_or_label, element_shown, end_tag, form_shown, href_at, id_attribute, if_some_text, image_tag, is_anchor_at, is_mark_at, is_type, label_at, linked_at, in_link, marks_at, note_class, outside, reference_tag, row_for, row_shown, shown_from, span_text, spaced, spans, start_of, start_tag, tagged, title_tag, within_type}
use Rattle.html_spec.specs.Tables.{column_names, columns_of, is_column_group, rows_of}
use Rattle.html_laws.specs.Utf8.{IsUtf8Anchor, IsUtf8Content, IsUtf8Mark}
use Rattle.html_laws.proofs.BlocksLaws.{cell_name, reference_name}
use Rattle.html_laws.proofs.ContentUtf8Laws.{HasUtf8Values, utf8_attribute_of, utf8_child, utf8_id, utf8_text_of}
use Rattle.html_laws.proofs.EachLaws.{chosen, of_and_then, of_both, of_found, of_kept, of_map_or, of_mapped, of_option}
use Rattle.html_laws.proofs.FormLaws.{title_name}
use Rattle.html_laws.proofs.FormUtf8Laws.{IsUtf8Row, IsUtf8Form, row_utf8}
use Rattle.html_laws.proofs.TextUtf8Laws.{utf8_attribute, utf8_codes, utf8_decimal, utf8_end, utf8_escaped, utf8_name, utf8_start, utf8_three}

-- Attributes

utf8_some_text : (text : List ℕ) → IsUtf8 text → IfSome (if_some_text text) IsUtf8
utf8_some_text [] first = tt
utf8_some_text (b ∷ text) first = first

utf8_id_shown : (context : HtmlContext) (is_topic : Bool) (id : List ℕ) → IsUtf8 context.topic → IsUtf8 id
    → IfSome (id_attribute context is_topic id) IsUtf8
utf8_id_shown context is_topic [] topic first = tt
utf8_id_shown context true (b ∷ id) topic first = first
utf8_id_shown context false (b ∷ id) topic first =
    utf8_three context.topic (codes "__") (b ∷ id) topic (utf8_codes (codes "__") refl) first

-- what an element begins with
utf8_start_of : (context : HtmlContext) (is_topic : Bool) (element : Element) (name class more : List ℕ)
    → IsUtf8 context.topic → HasUtf8Values element → IsUtf8 name → IsUtf8 class → IsUtf8 more
    → IsUtf8 (start_of context is_topic element name class more)
utf8_start_of context is_topic element name class more topic values named classed others =
    let id = id_attribute context is_topic (id_of element) in
    let class_is = if_some_text class in
    utf8_start name (attribute_text (codes "id") id ++ attribute_text (codes "class") class_is ++ more) named
    (utf8_three (attribute_text (codes "id") id) (attribute_text (codes "class") class_is) more
    (utf8_attribute (codes "id") id (utf8_codes (codes "id") refl)
    (utf8_id_shown context is_topic (id_of element) topic (utf8_id element values)))
    (utf8_attribute (codes "class") class_is (utf8_codes (codes "class") refl) (utf8_some_text class classed)) others)

utf8_span : (name : List ℕ) (count : ℕ) → IsUtf8 name → IsUtf8 (span_text name count)
utf8_span name count named = chosen IsUtf8 (nat_le count 1) [] (attribute_text name (Some (decimal count))) IsUtf8-nil
    (utf8_attribute name (Some (decimal count)) named (utf8_decimal count))

utf8_spans : (context : HtmlContext) (element : Element) → IsUtf8 (spans context element)
utf8_spans context element =
    IsUtf8-append (span_text (codes "rowspan") (rows_of element))
    (span_text (codes "colspan") (columns_of context.columns element))
    (utf8_span (codes "rowspan") (rows_of element) (utf8_codes (codes "rowspan") refl))
    (utf8_span (codes "colspan") (columns_of context.columns element) (utf8_codes (codes "colspan") refl))

-- Anchors

module _ (anchors : List Anchor) (all : AllByRecursion IsUtf8Anchor anchors) where
  utf8_href : (place : ℕ) → IfSome (href_at anchors place) IsUtf8
  utf8_href place =
      of_and_then IsUtf8Anchor IsUtf8 (λ (anchor : Anchor). anchor.href) (anchor_at anchors place) (λ anchor is. is.0)
      (of_found IsUtf8Anchor (is_anchor_at place) anchors all)

  utf8_label : (place : ℕ) → IsUtf8 (label_at anchors place)
  utf8_label place =
      of_option IsUtf8 (option_and_then (λ (anchor : Anchor). anchor.label) (anchor_at anchors place)) []
      (of_and_then IsUtf8Anchor IsUtf8 (λ (anchor : Anchor). anchor.label) (anchor_at anchors place)
      (λ anchor is. is.1) (of_found IsUtf8Anchor (is_anchor_at place) anchors all)) IsUtf8-nil

  utf8_content : (place : ℕ) (inside : Written) (content : Html) → IsUtf8 content.bytes
      → IsUtf8 (content_or_label anchors place inside content).bytes
  utf8_content place End content within = utf8_escaped (label_at anchors place) (utf8_label place)
  utf8_content place (Chars text doc rest) content within = within
  utf8_content place (Node element inside rest) content within = within

-- Marks

utf8_listed : (class : List ℕ) → IsUtf8 class → AllByRecursion IsUtf8 (option_to_list (if_some_text class))
utf8_listed [] is = tt
utf8_listed (b ∷ class) is = (is, tt)

utf8_others : (texts : List (List ℕ)) → AllByRecursion IsUtf8 texts
    → IsUtf8 (flat_map (λ other. codes " " ++ other) texts)
utf8_others [] all = IsUtf8-nil
utf8_others (text ∷ texts) all =
    utf8_three (codes " ") text (flat_map (λ other. codes " " ++ other) texts) (utf8_codes (codes " ") refl) all.0
    (utf8_others texts all.1)

utf8_spaced : (texts : List (List ℕ)) → AllByRecursion IsUtf8 texts → IsUtf8 (spaced texts)
utf8_spaced [] all = IsUtf8-nil
utf8_spaced (text ∷ texts) all =
    IsUtf8-append text (flat_map (λ other. codes " " ++ other) texts) all.0 (utf8_others texts all.1)

abbrev IsUtf8Overlay : Overlay → Type 0
IsUtf8Overlay overlay = AllByRecursion IsUtf8Anchor overlay.anchors × AllByRecursion IsUtf8Mark overlay.marks

utf8_class : (overlay : Overlay) → AllByRecursion IsUtf8Mark overlay.marks → (place : ℕ) (class : List ℕ)
    → IsUtf8 class → IsUtf8 (class_at overlay place class)
utf8_class overlay all place class is =
    utf8_spaced (option_to_list (if_some_text class) ++ marks_at overlay.marks place)
    (of_both IsUtf8 (option_to_list (if_some_text class)) (marks_at overlay.marks place) (utf8_listed class is)
    (of_mapped IsUtf8Mark IsUtf8 (λ (mark : Mark). mark.text) (filter (is_mark_at place) overlay.marks)
    (λ mark one. one) (of_kept IsUtf8Mark (is_mark_at place) overlay.marks all)))

-- Elements

utf8_href_text : (href : Option (List ℕ)) → IfSome href IsUtf8 → IsUtf8 (attribute_text (codes "href") href)
utf8_href_text href is = utf8_attribute (codes "href") href (utf8_codes (codes "href") refl) is

utf8_linked : (href : Option (List ℕ)) (content : Html) → IfSome href IsUtf8 → IsUtf8 content.bytes
    → IsUtf8 (in_link href content).bytes
utf8_linked None content is within = within
utf8_linked (Some href) content is within =
    utf8_three (start_tag (codes "a") (attribute_text (codes "href") (Some href))) content.bytes (end_tag (codes "a"))
    (utf8_start (codes "a") (attribute_text (codes "href") (Some href)) (utf8_codes (codes "a") refl)
    (utf8_href_text (Some href) is)) within (utf8_end (codes "a") (utf8_codes (codes "a") refl))

utf8_tagged : (context : HtmlContext) (is_topic : Bool) (element : Element) (name class more : List ℕ) (content : Html)
    → IsUtf8 context.topic → HasUtf8Values element → IsUtf8 name → IsUtf8 class → IsUtf8 more → IsUtf8 content.bytes
    → IsUtf8 (tagged context is_topic element name class more content).bytes
utf8_tagged context is_topic element name class more content topic values named classed others within =
    utf8_three (start_of context is_topic element name class more) content.bytes (end_tag name)
    (utf8_start_of context is_topic element name class more topic values named classed others) within
    (utf8_end name named)

utf8_note : (element : Element) → HasUtf8Values element → IsUtf8 (note_class element)
utf8_note element values =
    let kind = option_and_then if_some_text (attribute (codes "type") element) in
    let kind_is : IfSome kind IsUtf8 =
    of_and_then IsUtf8 IsUtf8 if_some_text (attribute (codes "type") element) utf8_some_text
    (utf8_attribute_of (codes "type") element values) in
    IsUtf8-append (codes "note") _ (utf8_codes (codes "note") refl)
    (of_map_or IsUtf8 IsUtf8 (λ kind. codes " " ++ kind) kind []
    (λ text is. IsUtf8-append (codes " ") text (utf8_codes (codes " ") refl) is) kind_is IsUtf8-nil)

utf8_alt : (element : Element) (inside : Written) → HasUtf8Values element → IsUtf8Content inside
    → IsUtf8 (alt_of element inside)
utf8_alt element inside values all =
    of_option IsUtf8 (attribute (codes "alt") element) (text_of (first_child (codes "topic/alt") inside))
    (utf8_attribute_of (codes "alt") element values)
    (utf8_text_of (first_child (codes "topic/alt") inside) (utf8_child (codes "topic/alt") inside all))

utf8_image : (context : HtmlContext) (overlay : Overlay) (place : ℕ) (element : Element) (inside : Written)
    → IsUtf8 context.topic → HasUtf8Values element → IsUtf8Content inside → IsUtf8Overlay overlay
    → IsUtf8 (image_tag context overlay place element inside)
utf8_image context overlay place element inside topic values all known =
    let source = Some (unwrap_or (href_at overlay.anchors place) []) in
    let other = Some (alt_of element inside) in
    utf8_start_of context false element (codes "img") (class_at overlay place [])
    (attribute_text (codes "src") source ++ attribute_text (codes "alt") other) topic values
    (utf8_codes (codes "img") refl) (utf8_class overlay known.1 place [] IsUtf8-nil)
    (IsUtf8-append (attribute_text (codes "src") source) (attribute_text (codes "alt") other)
    (utf8_attribute (codes "src") source (utf8_codes (codes "src") refl)
    (of_option IsUtf8 (href_at overlay.anchors place) [] (utf8_href overlay.anchors known.0 place) IsUtf8-nil))
    (utf8_attribute (codes "alt") other (utf8_codes (codes "alt") refl) (utf8_alt element inside values all)))

module _ (context : HtmlContext) (overlay : Overlay) (place : ℕ) (element : Element) (inside : Written)
    (content : Html) (topic : IsUtf8 context.topic) (known : IsUtf8Overlay overlay)
    (values : HasUtf8Values element) (all : IsUtf8Content inside) (within : IsUtf8 content.bytes) where
  around_link : (is_topic : Bool) (name class more : List ℕ) → IsUtf8 name → IsUtf8 class → IsUtf8 more → IsUtf8
      (tagged context is_topic element name (class_at overlay place class) more
      (linked_at overlay.anchors place content)).bytes
  around_link is_topic name class more named classed others =
      utf8_tagged context is_topic element name (class_at overlay place class) more
      (linked_at overlay.anchors place content) topic values named (utf8_class overlay known.1 place class classed)
      others
      (utf8_linked (href_at overlay.anchors place) content (utf8_href overlay.anchors known.0 place) within)

  utf8_form : (form : Form) → IsUtf8Form form
      → IsUtf8 (form_shown context overlay place element inside content form).bytes
  utf8_form (Tag name class) is = around_link false name class [] is.0 is.1 IsUtf8-nil
  utf8_form Topic is =
      around_link true (codes "article") [] [] (utf8_codes (codes "article") refl) IsUtf8-nil IsUtf8-nil
  utf8_form Title is =
      around_link false (title_tag context.around context.depth) [] []
      (utf8_name (title_tag context.around context.depth) (title_name context.around context.depth)) IsUtf8-nil
      IsUtf8-nil
  utf8_form Note is =
      around_link false (codes "div") (note_class element) [] (utf8_codes (codes "div") refl) (utf8_note element values)
      IsUtf8-nil
  utf8_form Reference is =
      utf8_tagged context false element (reference_tag (href_at overlay.anchors place)) (class_at overlay place [])
      (attribute_text (codes "href") (href_at overlay.anchors place)) content topic values
      (utf8_name (reference_tag (href_at overlay.anchors place)) (reference_name (href_at overlay.anchors place)))
      (utf8_class overlay known.1 place [] IsUtf8-nil)
      (utf8_href_text (href_at overlay.anchors place) (utf8_href overlay.anchors known.0 place)) within
  utf8_form Image is = utf8_image context overlay place element inside topic values all known
  utf8_form Cell is =
      around_link false (cell_tag context.head) [] (spans context element)
      (utf8_name (cell_tag context.head) (cell_name context.head)) IsUtf8-nil (utf8_spans context element)
  utf8_form SimpleCell is =
      around_link false (cell_tag context.simple_head) [] []
      (utf8_name (cell_tag context.simple_head) (cell_name context.simple_head)) IsUtf8-nil IsUtf8-nil
  utf8_form Left is = IsUtf8-nil
  utf8_form Foreign is = IsUtf8-nil

-- Contexts: the id of the nearest topic stays UTF-8

abbrev HasUtf8Topic : HtmlContext → Type 0
HasUtf8Topic context = IsUtf8 context.topic

columns_topic : (element : Element) (inside : Written) (context : HtmlContext) → HasUtf8Topic context
    → HasUtf8Topic (columns_in element inside context)
columns_topic element inside context topic =
    chosen HasUtf8Topic (is_column_group element) (record context { columns = column_names inside }) context topic topic

within_topic : (token : List ℕ) (element : Element) (context : HtmlContext) → HasUtf8Values element
    → HasUtf8Topic context → HasUtf8Topic (within_type token element context)
within_topic token element context values topic =
    chosen HasUtf8Topic (is_type (codes "topic") token)
    (record context { topic = id_of element; depth = context.depth + 1 }) context (utf8_id element values) topic

abbrev IsUtf8Within : (HtmlContext → Html) → Type 0
IsUtf8Within content = (within : HtmlContext) → HasUtf8Topic within → IsUtf8 (content within).bytes

utf8_row : (context : HtmlContext) (overlay : Overlay) (place : ℕ) (element : Element) (inside : Written)
    (content : HtmlContext → Html) (row : Option (List ℕ × Form)) → IfSome row IsUtf8Row → HasUtf8Topic context
    → IsUtf8Overlay overlay → HasUtf8Values element → IsUtf8Content inside → IsUtf8Within content
    → IsUtf8 (row_shown context overlay place element inside content row).bytes
utf8_row context overlay place element inside content None is topic known values all each =
    let context_in = columns_in element inside context in
    utf8_linked (href_at overlay.anchors place) (content_or_label overlay.anchors place inside (content context_in))
    (utf8_href overlay.anchors known.0 place)
    (utf8_content overlay.anchors known.0 place inside (content context_in)
    (each context_in (columns_topic element inside context topic)))
utf8_row context overlay place element inside content (Some row) is topic known values all each =
    let context_in = columns_in element inside (within_type row.0 element context) in
    utf8_form context overlay place element inside (content_or_label overlay.anchors place inside (content context_in))
    topic
    known values all
    (utf8_content overlay.anchors known.0 place inside (content context_in)
    (each context_in
    (columns_topic element inside (within_type row.0 element context) (within_topic row.0 element context values topic))))
    row.1 is

utf8_element : (context : HtmlContext) (overlay : Overlay) (place : ℕ) (element : Element) (inside : Written)
    (content : HtmlContext → Html) (typed : Bool) → has_types element ≡ typed → HasUtf8Topic context
    → IsUtf8Overlay overlay → HasUtf8Values element → IsUtf8Content inside → IsUtf8Within content
    → IsUtf8 (element_shown context overlay place element inside content).bytes
utf8_element context overlay place element inside content true e topic known values all each =
    rw e (utf8_row context overlay place element inside content (row_for element) (row_utf8 element) topic known values
    all each)
utf8_element context overlay place element inside content false e topic known values all each =
    rw e (each context topic)

-- Content

utf8_nodes : (context : HtmlContext) (overlay : Overlay) (place : ℕ) (nodes : Written) → HasUtf8Topic context
    → IsUtf8Overlay overlay → IsUtf8Content nodes
    → IsUtf8 (shown_from context overlay place nodes).bytes
utf8_nodes context overlay place End topic known all = IsUtf8-nil
utf8_nodes context overlay place (Chars text doc rest) topic known all =
    IsUtf8-append (escaped text) (shown_from context overlay (place + 1) rest).bytes (utf8_escaped text all.0)
    (utf8_nodes context overlay (place + 1) rest topic known all.1)
utf8_nodes context overlay place (Node element inside rest) topic known all =
    let content = λ (within : HtmlContext). shown_from within overlay (place + 1) inside in
    IsUtf8-append (element_shown context overlay place element inside content).bytes
    (shown_from context overlay (place + 1 + size inside) rest).bytes
    (utf8_element context overlay place element inside content (has_types element) refl topic known all.0.0 all.1
    (λ within is. utf8_nodes within overlay (place + 1) inside is known all.1))
    (utf8_nodes context overlay (place + 1 + size inside) rest topic known all.2)

pub body_utf8 : (anchors : List Anchor) (marks : List Mark) (nodes : Written) → AllByRecursion IsUtf8Anchor anchors
    → AllByRecursion IsUtf8Mark marks → IsUtf8Content nodes → IsUtf8 (body_html anchors marks nodes).bytes
unfolding body_html
body_utf8 anchors marks nodes known flags all =
    utf8_nodes outside (record { anchors = anchors; marks = marks }) 0 nodes IsUtf8-nil (known, flags) all
