-- The links of a page's elements (DITA 1.3, "URI-based (direct) addressing", "Processing key references to generate text or
-- link text", "xref", "link", "image"). That a document without a page gets no link, and the faults, are our own.
use Rattle.std.specs.Prelude.{◌==◌, ◌||◌, ℕ, Bool, true, false, not, List, [], ◌∷◌, ◌++◌, Option, Some, None, is_some, map, option_map, slice_get, unwrap_or, codes, if◌then◌else◌}
use Rattle.std.specs.List.{filter_map, flat_map}
use Rattle.std.specs.Option.{option_and_then, option_map_or}
use Rattle.dita_doc.specs.declared.content.Anchor.{Anchor}
use Rattle.dita_doc.specs.declared.content.KeyAnswer.{KeyAnswer}
use Rattle.dita_doc.specs.declared.content.LinkKind.TheVariants as links
use Rattle.dita_doc.specs.declared.content.PageLink.{PageLink}
use Rattle.dita_doc.specs.declared.fault.Fault.{Fault}
use Rattle.dita_doc.specs.declared.fault.FaultCode.TheVariants as faults
use Rattle.dita_doc.specs.declared.plan.PagePlan.{PagePlan}
use Rattle.dita_doc.specs.declared.plan.Target.{Target}
use Rattle.dita_doc.specs.declared.plan.Target.TheVariants as targets
use Rattle.href_text.specs.Joined.{relative_path}
use Rattle.href_text.specs.Reference.{is_external}
use Rattle.reader_spec.specs.World.{World}
use Rattle.map_spec.specs.Elements.{attribute, fault_at, first_child, has_types, is_a, plain_text}
use Rattle.map_spec.specs.Keys.{id_of_key, key_of}
use Rattle.map_spec.specs.Pages.{page_for}
use Rattle.map_spec.specs.Target.{default_format, default_scope, is_far, is_same_topic, local_file, target_by}
use Rattle.map_spec.specs.Titles.{first_in, title_in}
use Rattle.map_spec.specs.Written.{Element, Whole, Written}
use Rattle.html_spec.specs.Blocks as blocks
use Rattle.html_spec.specs.Blocks.{Form, row_for}
use Rattle.map_spec.specs.Places.{Standing, TopicAt, all_standing, is_topic}

-- Where a page's elements are read: the world, the pages of the plan, the page itself with its number, and the keys of its
-- scope
pub record Here : Type 0 where
  pub world : World
  pub pages : List PagePlan
  pub page : PagePlan
  pub number : ℕ
  pub key : List ℕ → KeyAnswer

-- Where a target leads: an href, and the page if it is one of ours

pub record Lead : Type 0 where
  pub href : Option (List ℕ)
  pub page : Option ℕ
  pub faults : List Fault

abbrev pub no_lead : Lead
no_lead = record { href = None; page = None; faults = [] }

-- what stands behind a page's name for a topic, or for an element of it
abbrev pub fragment : List ℕ → List ℕ → List ℕ
fragment [] [] = []
fragment (b ∷ topic) [] = codes "#" ++ b ∷ topic
fragment topic (b ∷ element) = codes "#" ++ topic ++ codes "__" ++ b ∷ element

abbrev pub lead_of_page : Here → Element → List ℕ → List ℕ → List ℕ → Option ℕ → Lead
lead_of_page here element name topic id None =
    record no_lead { faults = fault_at element faults.LinkNoPage name ∷ [] }
lead_of_page here element name topic id (Some page) = record no_lead {
  page = Some page;
  href = option_map (λ (other : PagePlan). relative_path here.page.name other.name ++ fragment topic id)
      (slice_get here.pages page);
}

-- a DITA document by its page for the context of this page
abbrev pub lead_of_document : Here → Element → List ℕ → List ℕ → List ℕ → Lead
lead_of_document here element name topic id =
    lead_of_page here element name topic id (page_for here.pages name here.page.id)

abbrev pub lead_of_target : Here → Element → Target → Lead
lead_of_target here element targets.Nothing = no_lead
lead_of_target here element
    (targets.Local name reference) = lead_of_document here element name reference.topic reference.element
lead_of_target here element (targets.File name rest) =
    record no_lead { href = Some (relative_path here.page.name name ++ rest) }
lead_of_target here element (targets.Other value) = record no_lead { href = Some value }

-- the topic that a key's reference names, or the first of the document
abbrev pub topic_or_first : Here → List ℕ → List ℕ → List ℕ
topic_or_first here name [] = first_in here.world name
topic_or_first here name (b ∷ topic) = b ∷ topic

-- `key/id` leads to that element of the key's document
abbrev pub lead_by_key : Here → Element → Option (List ℕ) → Target → Lead
lead_by_key here element (Some id) (targets.Local name reference) =
    lead_of_document here element name (topic_or_first here name reference.topic) id
lead_by_key here element id target = lead_of_target here element target

-- Keys of elements

abbrev pub keyref_of : Element → Option (List ℕ)
keyref_of element = attribute (codes "keyref") element

abbrev pub answer_of : Here → Element → Option KeyAnswer
answer_of here element = option_map (λ keyref. here.key (key_of keyref)) (keyref_of element)

abbrev pub if_defined : KeyAnswer → Option KeyAnswer
if_defined answer = if is_some answer.node then Some answer else None

-- an element is read by its key if the key is defined
abbrev pub defined_key : Here → Element → Option KeyAnswer
defined_key here element = option_and_then if_defined (answer_of here element)

-- the faults of the key, and that it is undefined, unless an href stands beside it
abbrev pub key_faults_of : Here → Element → List Fault
key_faults_of here element = option_map_or (λ (answer : KeyAnswer). answer.faults) (answer_of here element) []
    ++ (if is_some (defined_key here element) || is_some (attribute (codes "href") element) then []
    else option_map_or (λ keyref. fault_at element faults.KeyUndefined (key_of keyref) ∷ []) (keyref_of element) [])

-- Hrefs of elements

abbrev pub format_of : Element → List ℕ
format_of element = unwrap_or (attribute (codes "format") element) default_format

abbrev pub scope_of : Element → List ℕ
scope_of element = unwrap_or (attribute (codes "scope") element) default_scope

-- `#./element` means the topic where the element stands, on this page
abbrev pub in_topic : Here → List ℕ → Target → Target
in_topic here topic (targets.Local name reference) =
    if is_same_topic reference then targets.Local here.page.id.doc (record reference { topic = topic })
    else targets.Local name reference
in_topic here topic target = target

-- what an href leads to, and that it can't be read
pub record HrefRead : Type 0 where
  pub target : Target
  pub faults : List Fault

abbrev pub read_as : Element → List ℕ → Option Target → HrefRead
read_as element href None =
    record { target = targets.Nothing; faults = fault_at element faults.BadReference href ∷ [] }
read_as element href (Some target) = record { target = target; faults = [] }

abbrev pub read_href : Here → List ℕ → Element → Option (List ℕ) → HrefRead
read_href here topic element None = record { target = targets.Nothing; faults = [] }
read_href here topic element (Some href) = read_as element href
    (option_map (in_topic here topic) (target_by href (format_of element) (scope_of element) element.href_doc))

-- Texts of elements without children

abbrev pub text_of_target : Here → Element → Target → List ℕ
text_of_target here element (targets.Local name reference) = title_in here.world name reference.topic
text_of_target here element _ = unwrap_or (attribute (codes "href") element) []

-- Links and cross references, and all else that names a defined key

pub record Linked : Type 0 where
  pub lead : Lead
  pub label : List ℕ
  pub faults : List Fault

abbrev pub linked_by_key : Here → Element → KeyAnswer → Linked
linked_by_key here element answer = record {
  lead = lead_by_key here element (option_and_then id_of_key (keyref_of element)) answer.target;
  label = answer.label;
  faults = [];
}

abbrev pub linked_by_read : Here → Element → HrefRead → Linked
linked_by_read here element read = record {
  lead = lead_of_target here element read.target;
  label = text_of_target here element read.target;
  faults = read.faults;
}

abbrev pub linked_with : Here → List ℕ → Element → Option KeyAnswer → Linked
linked_with here topic element None =
    linked_by_read here element (read_href here topic element (attribute (codes "href") element))
linked_with here topic element (Some answer) = linked_by_key here element answer

abbrev pub linked_of : Here → List ℕ → Element → Linked
linked_of here topic element = linked_with here topic element (defined_key here element)

-- Images: a document of ours counts as the file of its name; without a target by the key the href counts

abbrev pub as_file : Target → Target
as_file (targets.Local name reference) = targets.File name []
as_file target = target

abbrev pub image_href : Element → List ℕ → HrefRead
image_href element href = read_as element href
    (if is_far (scope_of element) || is_external href then Some (targets.Other href) else local_file element.href_doc href)

abbrev pub image_by_href : Element → Option (List ℕ) → HrefRead
image_by_href element None = record { target = targets.Nothing; faults = [] }
image_by_href element (Some href) = image_href element href

abbrev pub image_by : Element → Target → HrefRead
image_by element targets.Nothing = image_by_href element (attribute (codes "href") element)
image_by element target = record { target = as_file target; faults = [] }

abbrev pub image_of : Here → Element → HrefRead
image_of here element =
    image_by element (option_map_or (λ (answer : KeyAnswer). answer.target) (defined_key here element) targets.Nothing)

-- Each element

abbrev pub is_image : Element → Bool
is_image element = is_a (codes "topic/image") element

abbrev pub is_xref : Element → Bool
is_xref element = is_a (codes "topic/xref") element

abbrev pub is_link : Element → Bool
is_link element = is_a (codes "topic/link") element

-- the text of a link is that of its linktext, if it has one
abbrev pub link_label : Written → List ℕ → List ℕ
link_label inside label =
    option_map_or (λ (text : Whole). plain_text text.1) (first_child (codes "topic/linktext") inside) label

-- what an element adds: its anchor, a link of the page, and faults
pub record Added : Type 0 where
  pub anchor : Option Anchor
  pub link : Option PageLink
  pub faults : List Fault

abbrev pub nothing_added : List Fault → Added
nothing_added faults = record { anchor = None; link = None; faults = faults }

-- what counts is the form that an element's last type gives it
abbrev pub is_reference_form : Form → Bool
is_reference_form blocks.Reference = true
is_reference_form _ = false

abbrev pub shows_href : Form → Bool
shows_href blocks.Reference = true
shows_href blocks.Image = true
shows_href _ = false

abbrev pub has_form : (Form → Bool) → Element → Bool
has_form is_form element = option_map_or (λ (row : List ℕ × Form). is_form row.1) (row_for element) false

abbrev pub image_added : Here → Standing → HrefRead → Added
image_added here standing read = record {
  anchor = Some (record {
    place = standing.place;
    href = if has_form shows_href standing.whole.0 then
        (lead_of_target here standing.whole.0 read.target).href else None;
    label = None;
  });
  link = None;
  faults = read.faults;
}

-- an element that is neither keyed nor shown as a cross reference holds no link itself
abbrev pub holds_link : Here → Element → Bool
holds_link here element = has_form is_reference_form element || is_some (defined_key here element)

abbrev pub href_held : Here → Element → Lead → Option (List ℕ)
href_held here element lead = if holds_link here element then lead.href else None

abbrev pub is_this_page : Here → Lead → Bool
is_this_page here lead = option_map_or (λ page. page == here.number) lead.page false

-- a link element leads from the page, unless it leads to the page itself
abbrev pub link_added : Here → Element → Lead → List ℕ → Option PageLink
link_added here element lead label = if not (is_link element) || is_this_page here lead then None
    else option_map (λ href. record { kind = links.Related; href = href; label = label }) lead.href

abbrev pub linked_added : Here → Standing → Linked → Added
linked_added here standing linked =
    let element = standing.whole.0 in
    let label = if is_link element then link_label standing.whole.1 linked.label else linked.label in
    record {
      anchor = Some (record { place = standing.place; href = href_held here element linked.lead; label = Some label });
      link = link_added here element linked.lead label;
      faults = linked.faults ++ linked.lead.faults;
    }

-- the id of the topic in which an element stands; a topic stands in itself
abbrev pub topic_here : Standing → List ℕ
topic_here standing = if is_topic standing.whole.0
    then unwrap_or (attribute (codes "id") standing.whole.0) []
    else option_map_or (λ (topic : TopicAt). topic.id) standing.topic []

abbrev pub added_by : Here → Standing → Added
added_by here standing =
    let element = standing.whole.0 in
    if is_image element then image_added here standing (image_of here element)
    else if is_xref element || is_link element || is_some (defined_key here element)
    then linked_added here standing (linked_of here (topic_here standing) element)
    else nothing_added []

-- a key on a transparent element says nothing
abbrev pub added_of : Here → Standing → Added
added_of here standing = if has_types standing.whole.0
    then record (added_by here standing) {
      faults = key_faults_of here standing.whole.0 ++ (added_by here standing).faults;
    }
    else nothing_added []

-- all elements of a page's resolved content
abbrev pub added_all : Here → Written → List Added
added_all here nodes = map (added_of here) (all_standing nodes)

abbrev pub anchors : Here → Written → List Anchor
anchors here nodes = filter_map (λ (added : Added). added.anchor) (added_all here nodes)

abbrev pub element_links : Here → Written → List PageLink
element_links here nodes = filter_map (λ (added : Added). added.link) (added_all here nodes)

abbrev pub anchor_faults : Here → Written → List Fault
anchor_faults here nodes = flat_map (λ (added : Added). added.faults) (added_all here nodes)
