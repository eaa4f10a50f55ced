-- The HTML of content (own): the element of HTML that each element of a page becomes, by the last of its types that the
-- table has.
use Rattle.std.specs.Prelude.{◌+◌, ◌==◌, ◌||◌, ℕ, Bool, true, false, List, [], ◌∷◌, ◌++◌, Option, Some, None, filter, find, map, nat_le, nat_lt, unwrap_or, codes, bytes_eq, if◌then◌else◌}
use Rattle.std.specs.Fmt.{decimal}
use Rattle.std.specs.List.{filter_map, flat_map}
use Rattle.std.specs.Option.{option_and_then, option_map_or, option_to_list}
use Rattle.dita_doc.specs.HtmlEscapes.{escaped, escaped_value}
use Rattle.dita_doc.specs.declared.content.Anchor.{Anchor}
use Rattle.dita_doc.specs.declared.content.Mark.{Mark}
use Rattle.dita_doc.specs.declared.fault.Fault.{Fault}
use Rattle.dita_doc.specs.declared.fault.FaultCode.TheVariants as faults
use Rattle.dita_doc.specs.declared.fact.Html.{Html}
use Rattle.map_spec.specs.Elements.{attribute, class_faults, fault_at, first_child, has_types, text_of, tokens_of}
use Rattle.map_spec.specs.Titles.{id_of}
use Rattle.map_spec.specs.Written.{Element, Written, End, Chars, Node, size}
use Rattle.html_spec.specs.Tables.{column_names, columns_of, is_column_group, rows_of}

-- What an element of this type becomes

pub data Form : Type 0 where
  -- an element of HTML with this name and class, the empty text for none
  Tag : (name class : List ℕ) → Form
  Topic : Form
  Title : Form
  Note : Form
  Reference : Form
  Image : Form
  Cell : Form
  SimpleCell : Form
  -- left out with its content
  Left : Form
  -- left out with a fault
  Foreign : Form

-- a type of the base module, with its form
abbrev pub topic_type : List ℕ → Form → List ℕ × Form
topic_type name form = (codes "topic/" ++ name, form)

abbrev pub plain : List ℕ → Form
plain name = Tag name []

abbrev pub forms : List (List ℕ × Form)
forms = topic_type (codes "topic") Topic
    ∷ topic_type (codes "title") Title
    ∷ topic_type (codes "shortdesc") (Tag (codes "p") (codes "shortdesc"))
    ∷ topic_type (codes "abstract") (Tag (codes "div") (codes "abstract"))
    ∷ topic_type (codes "body") (Tag (codes "div") (codes "body"))
    ∷ topic_type (codes "section") (plain (codes "section"))
    ∷ topic_type (codes "example") (Tag (codes "div") (codes "example"))
    ∷ topic_type (codes "note") Note
    ∷ topic_type (codes "bodydiv") (plain (codes "div"))
    ∷ topic_type (codes "sectiondiv") (plain (codes "div"))
    ∷ topic_type (codes "div") (plain (codes "div"))
    ∷ topic_type (codes "figgroup") (plain (codes "div"))
    ∷ topic_type (codes "p") (plain (codes "p"))
    ∷ topic_type (codes "lq") (plain (codes "blockquote"))
    ∷ topic_type (codes "q") (plain (codes "q"))
    ∷ topic_type (codes "fig") (plain (codes "figure"))
    ∷ topic_type (codes "cite") (plain (codes "cite"))
    ∷ topic_type (codes "ul") (plain (codes "ul"))
    ∷ topic_type (codes "sl") (plain (codes "ul"))
    ∷ topic_type (codes "ol") (plain (codes "ol"))
    ∷ topic_type (codes "li") (plain (codes "li"))
    ∷ topic_type (codes "sli") (plain (codes "li"))
    ∷ topic_type (codes "dl") (plain (codes "dl"))
    ∷ topic_type (codes "dt") (plain (codes "dt"))
    ∷ topic_type (codes "dd") (plain (codes "dd"))
    ∷ topic_type (codes "pre") (plain (codes "pre"))
    ∷ topic_type (codes "lines") (plain (codes "pre"))
    ∷ topic_type (codes "ph") (plain (codes "span"))
    ∷ topic_type (codes "keyword") (plain (codes "span"))
    ∷ topic_type (codes "term") (plain (codes "span"))
    ∷ topic_type (codes "fn") (Tag (codes "span") (codes "fn"))
    ∷ (codes "hi-d/b", plain (codes "b"))
    ∷ (codes "hi-d/i", plain (codes "i"))
    ∷ (codes "hi-d/u", plain (codes "u"))
    ∷ (codes "hi-d/sup", plain (codes "sup"))
    ∷ (codes "hi-d/sub", plain (codes "sub"))
    ∷ (codes "hi-d/tt", plain (codes "code"))
    ∷ (codes "pr-d/codeph", plain (codes "code"))
    ∷ topic_type (codes "xref") Reference
    ∷ topic_type (codes "image") Image
    ∷ topic_type (codes "simpletable") (plain (codes "table"))
    ∷ topic_type (codes "sthead") (plain (codes "tr"))
    ∷ topic_type (codes "strow") (plain (codes "tr"))
    ∷ topic_type (codes "stentry") SimpleCell
    ∷ topic_type (codes "table") (plain (codes "table"))
    ∷ topic_type (codes "thead") (plain (codes "thead"))
    ∷ topic_type (codes "tbody") (plain (codes "tbody"))
    ∷ topic_type (codes "row") (plain (codes "tr"))
    ∷ topic_type (codes "entry") Cell
    ∷ topic_type (codes "prolog") Left
    ∷ topic_type (codes "titlealts") Left
    ∷ topic_type (codes "related-links") Left
    ∷ topic_type (codes "data") Left
    ∷ topic_type (codes "draft-comment") Left
    ∷ topic_type (codes "required-cleanup") Left
    ∷ topic_type (codes "indexterm") Left
    ∷ topic_type (codes "alt") Left
    ∷ topic_type (codes "desc") Left
    ∷ topic_type (codes "colspec") Left
    ∷ topic_type (codes "foreign") Foreign
    ∷ topic_type (codes "unknown") Foreign
    ∷ topic_type (codes "object") Foreign
    ∷ []

abbrev pub is_form_of : List ℕ → List ℕ × Form → Bool
is_form_of token row = bytes_eq row.0 token

abbrev pub row_of : List ℕ → Option (List ℕ × Form)
row_of token = find (is_form_of token) forms

abbrev pub last_of : {X : Type 0} → List X → Option X
last_of [] = None
last_of (x ∷ []) = Some x
last_of (x ∷ y ∷ more) = last_of (y ∷ more)

-- the last of an element's types that the table has
abbrev pub row_for : Element → Option (List ℕ × Form)
row_for element = last_of (filter_map row_of (tokens_of element))

-- Where an element stands

-- the nearest of topic, section or example, figure and table around
pub data TitlePlace : Type 0 where
  InTopic : TitlePlace
  InSection : TitlePlace
  InFigure : TitlePlace
  InTable : TitlePlace

-- the id of the nearest topic, how many topics are around, the nearest of those above, whether a cell heads its column, in
-- tables and in simple tables, and the names of the columns of the nearest group
pub record HtmlContext : Type 0 where
  pub topic : List ℕ
  pub depth : ℕ
  pub around : TitlePlace
  pub head : Bool
  pub simple_head : Bool
  pub columns : List (Option (List ℕ))

abbrev pub outside : HtmlContext
outside = record { topic = []; depth = 0; around = InTopic; head = false; simple_head = false; columns = [] }

-- what an element of a type changes for those within it
abbrev pub is_type : List ℕ → List ℕ → Bool
is_type name token = bytes_eq token (codes "topic/" ++ name)

abbrev pub around_in : List ℕ → TitlePlace → TitlePlace
around_in token around =
    if is_type (codes "topic") token then InTopic
    else if is_type (codes "section") token || is_type (codes "example") token then InSection
    else if is_type (codes "fig") token then InFigure
    else if is_type (codes "table") token then InTable
    else around

abbrev pub head_in : List ℕ → Bool → Bool
head_in token head =
    if is_type (codes "thead") token then true
    else if is_type (codes "tbody") token || is_type (codes "table") token then false
    else head

abbrev pub simple_head_in : List ℕ → Bool → Bool
simple_head_in token head =
    if is_type (codes "sthead") token then true
    else if is_type (codes "strow") token || is_type (codes "simpletable") token then false
    else head

abbrev pub topic_in : List ℕ → Element → HtmlContext → HtmlContext
topic_in token element context = if is_type (codes "topic") token
    then record context { topic = id_of element; depth = context.depth + 1 } else context

abbrev pub columns_in : Element → Written → HtmlContext → HtmlContext
columns_in element inside context =
    if is_column_group element then record context { columns = column_names inside } else context

abbrev pub within_type : List ℕ → Element → HtmlContext → HtmlContext
within_type token element context = record (topic_in token element context) {
  around = around_in token context.around;
  head = head_in token context.head;
  simple_head = simple_head_in token context.simple_head;
}

-- Bytes with faults

abbrev pub shown : List ℕ → Html
shown bytes = record { bytes = bytes; faults = [] }

abbrev pub shown_beside : Html → Html → Html
shown_beside first second =
    record { bytes = first.bytes ++ second.bytes; faults = first.faults ++ second.faults }

abbrev pub shown_in : List ℕ → Html → List ℕ → Html
shown_in start html end = record html { bytes = start ++ html.bytes ++ end }

abbrev pub shown_with : List Fault → Html → Html
shown_with faults html = record html { faults = faults ++ html.faults }

-- Tags

-- an attribute, if it has a value
abbrev pub attribute_text : List ℕ → Option (List ℕ) → List ℕ
attribute_text name None = []
attribute_text name (Some value) = codes " " ++ name ++ codes "=\"" ++ escaped_value value ++ codes "\""

abbrev pub if_some_text : List ℕ → Option (List ℕ)
if_some_text [] = None
if_some_text (b ∷ text) = Some (b ∷ text)

abbrev pub start_tag : List ℕ → List ℕ → List ℕ
start_tag name attributes = codes "<" ++ name ++ attributes ++ codes ">"

abbrev pub end_tag : List ℕ → List ℕ
end_tag name = codes "</" ++ name ++ codes ">"

-- the id of an element stands behind that of its topic, and a topic's alone; an empty id is none
abbrev pub id_attribute : HtmlContext → Bool → List ℕ → Option (List ℕ)
id_attribute context is_topic [] = None
id_attribute context true (b ∷ id) = Some (b ∷ id)
id_attribute context false (b ∷ id) = Some (context.topic ++ codes "__" ++ b ∷ id)

abbrev pub start_of : HtmlContext → Bool → Element → (name class more : List ℕ) → List ℕ
start_of context is_topic element name class more = start_tag name
    (attribute_text (codes "id") (id_attribute context is_topic (id_of element))
    ++ attribute_text (codes "class") (if_some_text class) ++ more)

-- Titles: their level is the depth of the topic, and one more in a section; h1 to h6

abbrev pub level_of : ℕ → ℕ
level_of depth = if nat_lt 6 depth then 6 else if depth == 0 then 1 else depth

abbrev pub heading : ℕ → List ℕ
heading depth = codes "h" ++ decimal (level_of depth)

abbrev pub title_tag : TitlePlace → ℕ → List ℕ
title_tag InTopic depth = heading depth
title_tag InSection depth = heading (depth + 1)
title_tag InFigure depth = codes "figcaption"
title_tag InTable depth = codes "caption"

abbrev pub note_class : Element → List ℕ
note_class element = codes "note" ++ option_map_or (λ kind. codes " " ++ kind)
    (option_and_then if_some_text (attribute (codes "type") element)) []

-- Cells

abbrev pub cell_tag : Bool → List ℕ
cell_tag true = codes "th"
cell_tag false = codes "td"

abbrev pub span_text : List ℕ → ℕ → List ℕ
span_text name count = if nat_le count 1 then [] else attribute_text name (Some (decimal count))

abbrev pub spans : HtmlContext → Element → List ℕ
spans context element =
    span_text (codes "rowspan") (rows_of element) ++ span_text (codes "colspan") (columns_of context.columns element)

-- What is laid over content: the links and the marks of its elements, by their places

pub record Overlay : Type 0 where
  pub anchors : List Anchor
  pub marks : List Mark

-- Marks

abbrev pub is_mark_at : ℕ → Mark → Bool
is_mark_at place mark = mark.place == place

-- the texts of the marks of the element at a place
abbrev pub marks_at : List Mark → ℕ → List (List ℕ)
marks_at marks place = map (λ (mark : Mark). mark.text) (filter (is_mark_at place) marks)

-- with a space between two texts
abbrev pub spaced : List (List ℕ) → List ℕ
spaced [] = []
spaced (text ∷ texts) = text ++ flat_map (λ other. codes " " ++ other) texts

-- a class, if it is not empty, and the texts of marks behind it
abbrev pub class_with : List (List ℕ) → List ℕ → List ℕ
class_with marks class = spaced (option_to_list (if_some_text class) ++ marks)

-- the class of an element: that of its form, if it has one, and behind it the element's marks
abbrev pub class_at : Overlay → ℕ → List ℕ → List ℕ
class_at overlay place class = class_with (marks_at overlay.marks place) class

-- Links

abbrev pub is_anchor_at : ℕ → Anchor → Bool
is_anchor_at place anchor = anchor.place == place

abbrev pub anchor_at : List Anchor → ℕ → Option Anchor
anchor_at anchors place = find (is_anchor_at place) anchors

abbrev pub href_at : List Anchor → ℕ → Option (List ℕ)
href_at anchors place = option_and_then (λ (anchor : Anchor). anchor.href) (anchor_at anchors place)

abbrev pub label_at : List Anchor → ℕ → List ℕ
label_at anchors place = unwrap_or (option_and_then (λ (anchor : Anchor). anchor.label) (anchor_at anchors place)) []

-- an element without children shows the text of its link
abbrev pub content_or_label : List Anchor → ℕ → Written → Html → Html
content_or_label anchors place End content = shown (escaped (label_at anchors place))
content_or_label anchors place inside content = content

-- a link stands around the content
abbrev pub in_link : Option (List ℕ) → Html → Html
in_link None content = content
in_link (Some href) content =
    shown_in (start_tag (codes "a") (attribute_text (codes "href") (Some href))) content (end_tag (codes "a"))

abbrev pub linked_at : List Anchor → ℕ → Html → Html
linked_at anchors place content = in_link (href_at anchors place) content

-- Images

abbrev pub alt_of : Element → Written → List ℕ
alt_of element inside = unwrap_or (attribute (codes "alt") element) (text_of (first_child (codes "topic/alt") inside))

abbrev pub image_tag : HtmlContext → Overlay → ℕ → Element → Written → List ℕ
image_tag context overlay place element inside =
    start_of context false element (codes "img") (class_at overlay place [])
    (attribute_text (codes "src") (Some (unwrap_or (href_at overlay.anchors place) []))
    ++ attribute_text (codes "alt") (Some (alt_of element inside)))

-- Elements

-- an element of HTML around content
abbrev pub tagged : HtmlContext → Bool → Element → (name class more : List ℕ) → Html → Html
tagged context is_topic element name class more content =
    shown_in (start_of context is_topic element name class more) content (end_tag name)

abbrev pub reference_tag : Option (List ℕ) → List ℕ
reference_tag None = codes "span"
reference_tag (Some href) = codes "a"

abbrev pub form_shown : HtmlContext → Overlay → ℕ → Element → Written → Html → Form → Html
form_shown context overlay place element inside content (Tag name class) =
    tagged context false element name (class_at overlay place class) [] (linked_at overlay.anchors place content)
form_shown context overlay place element inside content Topic =
    tagged context true element (codes "article") (class_at overlay place []) []
    (linked_at overlay.anchors place content)
form_shown context overlay place element inside content Title =
    tagged context false element (title_tag context.around context.depth) (class_at overlay place []) []
    (linked_at overlay.anchors place content)
form_shown context overlay place element inside content Note =
    tagged context false element (codes "div") (class_at overlay place (note_class element)) []
    (linked_at overlay.anchors place content)
form_shown context overlay place element inside content Reference =
    tagged context false element (reference_tag (href_at overlay.anchors place)) (class_at overlay place [])
    (attribute_text (codes "href") (href_at overlay.anchors place)) content
form_shown context overlay place element inside content Image = shown (image_tag context overlay place element inside)
form_shown context overlay place element inside content Cell =
    tagged context false element (cell_tag context.head) (class_at overlay place []) (spans context element)
    (linked_at overlay.anchors place content)
form_shown context overlay place element inside content SimpleCell =
    tagged context false element (cell_tag context.simple_head) (class_at overlay place []) []
    (linked_at overlay.anchors place content)
form_shown context overlay place element inside content Left = shown []
form_shown context overlay place element inside content Foreign =
    shown_with (fault_at element faults.Foreign element.name ∷ []) (shown [])

-- `content` shows what the element holds, where it stands then; an element without a row has no tag, and so no marks
abbrev pub row_shown : HtmlContext → Overlay → ℕ → Element → Written → (HtmlContext → Html) → Option (List ℕ × Form)
    → Html
row_shown context overlay place element inside content None = linked_at overlay.anchors place
    (content_or_label overlay.anchors place inside (content (columns_in element inside context)))
row_shown context overlay place element inside content (Some row) =
    form_shown context overlay place element inside (content_or_label overlay.anchors place inside
    (content (columns_in element inside (within_type row.0 element context)))) row.1

-- an element of no type shows its content alone
abbrev pub element_shown : HtmlContext → Overlay → ℕ → Element → Written → (HtmlContext → Html) → Html
element_shown context overlay place element inside content =
    if has_types element then row_shown context overlay place element inside content (row_for element)
    else shown_with (class_faults element) (content context)

abbrev pub shown_from : HtmlContext → Overlay → ℕ → Written → Html
shown_from context overlay place End = shown []
shown_from context overlay place (Chars text doc rest) =
    shown_beside (shown (escaped text)) (shown_from context overlay (place + 1) rest)
shown_from context overlay place (Node element inside rest) = shown_beside
    (element_shown context overlay place element inside (λ within. shown_from within overlay (place + 1) inside))
    (shown_from context overlay (place + 1 + size inside) rest)

-- the body of a page, with the links and the marks of its elements
unfoldable pub body_html : List Anchor → List Mark → Written → Html
body_html anchors marks nodes = shown_from outside (record { anchors = anchors; marks = marks }) 0 nodes

-- The cells of a table, each with its place, and how it is shown

pub record CellAt : Type 0 where
  pub place : ℕ
  pub head : Bool
  pub rows : ℕ
  pub columns : ℕ

abbrev pub cell_by : HtmlContext → ℕ → Element → Option (List ℕ × Form) → List CellAt
cell_by context place element (Some (token, Cell)) = record {
  place = place;
  head = context.head;
  rows = rows_of element;
  columns = columns_of context.columns element;
} ∷ []
cell_by context place element (Some (token, SimpleCell)) =
    record { place = place; head = context.simple_head; rows = 1; columns = 1 } ∷ []
cell_by context place element _ = []

abbrev pub context_in : Element → Written → Option (List ℕ × Form) → HtmlContext → HtmlContext
context_in element inside None context = columns_in element inside context
context_in element inside (Some row) context = columns_in element inside (within_type row.0 element context)

abbrev pub cells_from : HtmlContext → ℕ → Written → List CellAt
cells_from context place End = []
cells_from context place (Chars text doc rest) = cells_from context (place + 1) rest
cells_from context place (Node element inside rest) =
    cell_by context place element (row_for element)
    ++ cells_from (context_in element inside (row_for element) context) (place + 1) inside
    ++ cells_from context (place + 1 + size inside) rest
