-- What is written of a body on the way: what stands before and behind the content of an element.
use Rattle.std.specs.Prelude.{◌≡◌, ◌+◌, ◌++◌, ℕ, Bool, true, false, List, [], ◌∷◌, Option, Some, None, codes, unwrap_or, if◌then◌else◌}
use Rattle.std.specs.Option.{option_copied, option_map_or}
use Rattle.dita_doc.specs.HtmlEscapes.{escaped, escaped_value}
use Rattle.dita_doc.specs.declared.fact.Html.{Html}
use Rattle.dita_doc.specs.declared.fault.FaultCode.TheVariants as faults
use Rattle.html_blocks.specs.Shown.{counted}
use Rattle.html_blocks.specs.Walk.{IsWithin, content_shown}
use Rattle.html_blocks.specs.declared.element.Element as declared
use Rattle.html_blocks.specs.declared.page.OpenTag.{OpenTag}
use Rattle.html_blocks.specs.declared.page.BodyText.{BodyText}
use Rattle.html_tables.specs.Walk.{KeepsGroups}
use Rattle.map_spec.specs.Elements.{fault_at}
use Rattle.map_spec.specs.Titles.{id_of}
use Rattle.map_spec.specs.Written as written
use Rattle.map_spec.specs.Written.{Element, Written}
use Rattle.html_spec.specs.Blocks as blocks
use Rattle.html_spec.specs.Blocks.{Form, HtmlContext, Overlay, alt_of, attribute_text, class_with, end_tag, if_some_text, is_type, note_class, shown, shown_with, spans, start_of, start_tag}

-- Where an element stands: what a token changes for those within

abbrev pub topic_within : List ℕ → Element → List ℕ → List ℕ
topic_within token element topic = if is_type (codes "topic") token then id_of element else topic

abbrev pub depth_within : List ℕ → ℕ → ℕ
depth_within token depth = if is_type (codes "topic") token then counted (depth + 1) else depth

-- Start tags, by the form of an element

abbrev pub is_topic : Form → Bool
is_topic (blocks.Tag name class) = false
is_topic blocks.Topic = true
is_topic blocks.Title = false
is_topic blocks.Note = false
is_topic blocks.Reference = false
is_topic blocks.Image = false
is_topic blocks.Cell = false
is_topic blocks.SimpleCell = false
is_topic blocks.Left = false
is_topic blocks.Foreign = false

abbrev pub class_by : Element → Form → List ℕ
class_by element (blocks.Tag name class) = class
class_by element blocks.Topic = []
class_by element blocks.Title = []
class_by element blocks.Note = note_class element
class_by element blocks.Reference = []
class_by element blocks.Image = []
class_by element blocks.Cell = []
class_by element blocks.SimpleCell = []
class_by element blocks.Left = []
class_by element blocks.Foreign = []

-- the attributes behind id and class
abbrev pub more_by : HtmlContext → Option (List ℕ) → Element → Form → List ℕ
more_by context href element (blocks.Tag name class) = []
more_by context href element blocks.Topic = []
more_by context href element blocks.Title = []
more_by context href element blocks.Note = []
more_by context href element blocks.Reference = attribute_text (codes "href") href
more_by context href element blocks.Image = []
more_by context href element blocks.Cell = spans context element
more_by context href element blocks.SimpleCell = []
more_by context href element blocks.Left = []
more_by context href element blocks.Foreign = []

abbrev pub start_by : HtmlContext → Option (List ℕ) → List (List ℕ) → Element → List ℕ → Form → List ℕ
start_by context href marks element name form =
    start_of context (is_topic form) element name (class_with marks (class_by element form))
    (more_by context href element form)

-- the type of a note, if it says one
abbrev pub kind_text : List ℕ → List ℕ
kind_text kind = option_map_or (λ some. codes " " ++ escaped_value some) (if_some_text kind) []

abbrev pub note_begun : List ℕ → List ℕ
note_begun kind = codes " class=\"note" ++ kind_text kind

abbrev pub note_text : List ℕ → List ℕ
note_text kind = note_begun kind ++ codes "\""

-- Links around content

-- what the link around the content leads to: a reference is a link itself
abbrev pub href_within : Form → Option (List ℕ) → Option (List ℕ)
href_within (blocks.Tag name class) href = href
href_within blocks.Topic href = href
href_within blocks.Title href = href
href_within blocks.Note href = href
href_within blocks.Reference href = None
href_within blocks.Image href = href
href_within blocks.Cell href = href
href_within blocks.SimpleCell href = href
href_within blocks.Left href = href
href_within blocks.Foreign href = href

abbrev pub link_begun : Option (List ℕ) → List ℕ
link_begun href = option_map_or (λ to. start_tag (codes "a") (attribute_text (codes "href") (Some to))) href []

abbrev pub link_ended : Bool → List ℕ
link_ended is = if is then end_tag (codes "a") else []

-- the label of a link in the place of content that is not there
abbrev pub label_in : Written → List ℕ → List ℕ
label_in written.End label = escaped label
label_in (written.Chars text doc rest) label = []
label_in (written.Node element inside rest) label = []

abbrev pub content_begun : Option (List ℕ) → Written → List ℕ → List ℕ
content_begun href inside label = link_begun href ++ label_in inside label

-- Elements whose content is not shown

abbrev pub file_text : Option (List ℕ) → Element → Written → List ℕ
file_text href element inside = attribute_text (codes "src") (Some (unwrap_or href []))
    ++ attribute_text (codes "alt") (Some (alt_of element inside))

abbrev pub image_by : HtmlContext → Option (List ℕ) → List (List ℕ) → Element → Written → List ℕ
image_by context href marks element inside =
    start_of context false element (codes "img") (class_with marks []) (file_text href element inside)

abbrev pub whole_by : HtmlContext → Option (List ℕ) → List (List ℕ) → Element → Written → Form → Html
whole_by context href marks element inside (blocks.Tag name class) = shown []
whole_by context href marks element inside blocks.Topic = shown []
whole_by context href marks element inside blocks.Title = shown []
whole_by context href marks element inside blocks.Note = shown []
whole_by context href marks element inside blocks.Reference = shown []
whole_by context href marks element inside blocks.Image = shown (image_by context href marks element inside)
whole_by context href marks element inside blocks.Cell = shown []
whole_by context href marks element inside blocks.SimpleCell = shown []
whole_by context href marks element inside blocks.Left = shown []
whole_by context href marks element inside blocks.Foreign =
    shown_with (fault_at element faults.Foreign element.name ∷ []) (shown [])

-- Pages as they grow

-- this was written more, and the groups that were known are known
pub record HasMore (old new : BodyText) (html : Html) : Type 0 where
  pub kept : KeepsGroups old.groups new.groups
  pub text : new.text ≡ old.text ++ html.bytes
  pub faults : new.faults ≡ old.faults ++ html.faults

-- what stands behind the content of an element that is open
abbrev pub closing : OpenTag → List ℕ
closing opened = link_ended opened.is_linked ++ option_map_or end_tag (option_copied opened.name) []

-- an element was begun, whose content stands there
pub record IsBegun (old new : BodyText) (opened : OpenTag) (context : HtmlContext) (begun : List ℕ) : Type 0 where
  pub within : IsWithin new.groups opened.within context
  pub more : HasMore old new (shown begun)

-- an element was opened: with its content and what closes it, it is whole
pub record IsOpen (old new : BodyText) (opened : OpenTag) (overlay : Overlay) (element : declared.Element)
    (whole : Html) :
    Type 0 where
  pub before : Html
  pub context : HtmlContext
  pub within : IsWithin new.groups opened.within context
  pub more : HasMore old new before
  pub bytes : whole.bytes ≡ before.bytes ++ ((content_shown overlay element context).bytes ++ closing opened)
  pub faults : whole.faults ≡ before.faults ++ (content_shown overlay element context).faults

-- an element was opened, or written whole
abbrev pub HasOpened : BodyText → BodyText → Option OpenTag → Overlay → declared.Element → Html → Type 0
HasOpened old new None overlay element whole = HasMore old new whole
HasOpened old new (Some opened) overlay element whole = IsOpen old new opened overlay element whole
