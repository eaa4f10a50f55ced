-- The links of a page's elements, where all texts are UTF-8, are UTF-8.
use Rattle.std.specs.Prelude.{◌==◌, ◌&&◌, ◌||◌, ℕ, not, List, [], ◌∷◌, ◌++◌, Option, Some, None, IfSome, is_some, length, option_map, slice_get, unwrap_or, bytes_eq, codes, if◌then◌else◌}
use Rattle.std.specs.List.{AllByRecursion}
use Rattle.std.specs.Option.{option_and_then, option_map_or}
use Rattle.std.specs.Str.{IsUtf8}
use Rattle.std.proofs.Common.{refl}
use Rattle.std.proofs.lemmas.Str.{IsUtf8-append, IsUtf8-nil}
use Rattle.dita_doc.specs.declared.content.KeyAnswer.{KeyAnswer}
use Rattle.dita_doc.specs.declared.content.LinkKind.TheVariants as links
use Rattle.dita_doc.specs.declared.content.PageLink.{PageLink}
use Rattle.dita_doc.specs.declared.plan.PagePlan.{PagePlan}
use Rattle.dita_doc.specs.declared.plan.Target.{Target}
use Rattle.dita_doc.specs.declared.plan.Target.TheVariants as targets
use Rattle.href_text.specs.Joined.{relative_path}
use Rattle.href_text.specs.Reference.{is_external}
use Rattle.map_spec.specs.Elements.{attribute, first_child, has_types, plain_text}
use Rattle.map_spec.specs.Keys.{id_of_key, key_of}
use Rattle.map_spec.specs.Pages.{page_for}
use Rattle.map_spec.specs.Target.{is_far, local_file, target_by}
use Rattle.map_spec.specs.Titles.{first_in, first_of_document, id_of, topics}
use Rattle.map_spec.specs.Written.{Element, Whole, Written, document}
use Rattle.html_spec.specs.Anchors.{Added, Here, Lead, Linked, HrefRead, added_all, added_by, added_of, anchors, answer_of, as_file, defined_key, element_links, format_of, fragment, has_form, holds_link, if_defined, image_added, image_by, image_by_href, image_href, image_of, in_topic, is_image, is_link, is_this_page, is_xref, key_faults_of, keyref_of, lead_by_key, lead_of_target, lead_of_document, lead_of_page, link_added, link_label, linked_added, linked_of, linked_with, nothing_added, read_as, read_href, scope_of, shows_href, text_of_target, topic_here, topic_or_first}
use Rattle.map_spec.specs.Places.{Standing, TopicAt, all_standing, is_topic}
use Rattle.html_laws.specs.Utf8.{IsUtf8Anchor, IsUtf8Content, IsUtf8Element, IsUtf8Link, IsUtf8Page, IsUtf8Target, IsUtf8World}
use Rattle.html_laws.proofs.ContentUtf8Laws.{IsUtf8Whole, utf8_attribute_of, utf8_child, utf8_id, utf8_plain, utf8_title_in, utf8_topics}
use Rattle.html_laws.proofs.EachLaws.{chosen, of_and_then, of_filter_map, of_map_or, of_mapped, of_option, of_option_map, of_place}
use Rattle.html_laws.proofs.KeyUtf8Laws.{IsUtf8Answer, utf8_id_of_key, utf8_key_of}
use Rattle.html_laws.proofs.PlaceUtf8Laws.{IsUtf8Standing, utf8_all_standing}
use Rattle.html_laws.proofs.ReferenceUtf8Laws.{IsUtf8Lead, utf8_local_file, utf8_relative, utf8_target_by}
use Rattle.html_laws.proofs.TextUtf8Laws.{IsUtf8If, utf8_codes, utf8_three}

pub record IsUtf8Here (here : Here) : Type 0 where
  pub world : IsUtf8World here.world
  pub pages : AllByRecursion IsUtf8Page here.pages
  pub page : IsUtf8Page here.page
  pub key : (key : List ℕ) → IsUtf8 key → IsUtf8Answer (here.key key)

abbrev LeadsInUtf8 : Lead → Type 0
LeadsInUtf8 lead = IfSome lead.href IsUtf8

abbrev IsUtf8Linked : Linked → Type 0
IsUtf8Linked linked = LeadsInUtf8 linked.lead × IsUtf8 linked.label

abbrev IsUtf8Read : HrefRead → Type 0
IsUtf8Read read = IsUtf8Target read.target

abbrev IsUtf8Added : Added → Type 0
IsUtf8Added added = IfSome added.anchor IsUtf8Anchor × IfSome added.link IsUtf8Link

utf8_fragment : (topic element : List ℕ) → IsUtf8 topic → IsUtf8 element → IsUtf8 (fragment topic element)
utf8_fragment [] [] first second = IsUtf8-nil
utf8_fragment (b ∷ topic) [] first second =
    IsUtf8-append (codes "#") (b ∷ topic) (utf8_codes (codes "#") refl) first
utf8_fragment [] (c ∷ element) first second =
    utf8_three (codes "#" ++ []) (codes "__") (c ∷ element)
    (IsUtf8-append (codes "#") [] (utf8_codes (codes "#") refl) first) (utf8_codes (codes "__") refl) second
utf8_fragment (b ∷ topic) (c ∷ element) first second =
    utf8_three (codes "#" ++ b ∷ topic) (codes "__") (c ∷ element)
    (IsUtf8-append (codes "#") (b ∷ topic) (utf8_codes (codes "#") refl) first) (utf8_codes (codes "__") refl) second

utf8_as_file : (target : Target) → IsUtf8Target target → IsUtf8Target (as_file target)
utf8_as_file targets.Nothing is = tt
utf8_as_file (targets.Local name reference) is = (is.0, IsUtf8-nil)
utf8_as_file (targets.File name rest) is = is
utf8_as_file (targets.Other value) is = is

utf8_read_as : (element : Element) (href : List ℕ) (target : Option Target) → IsUtf8Lead target
    → IsUtf8Read (read_as element href target)
utf8_read_as element href None is = tt
utf8_read_as element href (Some target) is = is

-- Images

utf8_image_href : (element : Element) (href : List ℕ) → IsUtf8Element element → IsUtf8 href
    → IsUtf8Read (image_href element href)
utf8_image_href element href first second =
    let far = is_far (scope_of element) || is_external href in
    let near = local_file element.href_doc href in
    utf8_read_as element href (if far then Some (targets.Other href) else near)
    (chosen IsUtf8Lead far (Some (targets.Other href)) near second (utf8_local_file element.href_doc href first.2 second))

utf8_image_by_href : (element : Element) (href : Option (List ℕ)) → IsUtf8Element element → IfSome href IsUtf8
    → IsUtf8Read (image_by_href element href)
utf8_image_by_href element None first second = tt
utf8_image_by_href element (Some href) first second = utf8_image_href element href first second

utf8_image_by : (element : Element) (target : Target) → IsUtf8Element element → IsUtf8Target target
    → IsUtf8Read (image_by element target)
utf8_image_by element targets.Nothing first second =
    utf8_image_by_href element (attribute (codes "href") element) first (utf8_attribute_of (codes "href") element first.0)
utf8_image_by element (targets.Local name reference) first second = utf8_as_file (targets.Local name reference) second
utf8_image_by element (targets.File name rest) first second = second
utf8_image_by element (targets.Other value) first second = second

utf8_link_label : (inside : Written) (label : List ℕ) → IsUtf8Content inside → IsUtf8 label
    → IsUtf8 (link_label inside label)
utf8_link_label inside label first second =
    of_map_or IsUtf8Whole IsUtf8 (λ (text : Whole). plain_text text.1) (first_child (codes "topic/linktext") inside) label
    (λ text is. utf8_plain text.1 is.1) (utf8_child (codes "topic/linktext") inside first) second

module _ (here : Here) (of_here : IsUtf8Here here) where
  -- Leads

  utf8_lead_to_page : (element : Element) (name topic id : List ℕ) (page : Option ℕ) → IsUtf8 topic → IsUtf8 id
      → LeadsInUtf8 (lead_of_page here element name topic id page)
  utf8_lead_to_page element name topic id None first second = tt
  utf8_lead_to_page element name topic id (Some page) first second =
      of_option_map IsUtf8Page IsUtf8
      (λ (other : PagePlan). relative_path here.page.name other.name ++ fragment topic id) (slice_get here.pages page)
      (λ other is. IsUtf8-append (relative_path here.page.name other.name) (fragment topic id)
      (utf8_relative here.page.name other.name is.1) (utf8_fragment topic id first second))
      (of_place IsUtf8Page here.pages page of_here.pages)

  utf8_lead_to : (element : Element) (name topic id : List ℕ) → IsUtf8 topic → IsUtf8 id
      → LeadsInUtf8 (lead_of_document here element name topic id)
  utf8_lead_to element name topic id first second =
      utf8_lead_to_page element name topic id (page_for here.pages name here.page.id) first second

  utf8_lead_of : (element : Element) (target : Target) → IsUtf8Target target
      → LeadsInUtf8 (lead_of_target here element target)
  utf8_lead_of element targets.Nothing is = tt
  utf8_lead_of element (targets.Local name reference) is =
      utf8_lead_to element name reference.topic reference.element is.1 is.2
  utf8_lead_of element (targets.File name rest) is =
      IsUtf8-append (relative_path here.page.name name) rest (utf8_relative here.page.name name is.0) is.1
  utf8_lead_of element (targets.Other value) is = is

  utf8_first_in : (name : List ℕ) → IsUtf8 name → IsUtf8 (first_in here.world name)
  utf8_first_in name is =
      of_map_or IsUtf8Content IsUtf8 first_of_document (document here.world name) []
      (λ nodes one. of_map_or IsUtf8Whole IsUtf8 (λ (topic : Whole). id_of topic.0) (slice_get (topics nodes) 0) []
      (λ topic two. utf8_id topic.0 two.0.0) (of_place IsUtf8Whole (topics nodes) 0 (utf8_topics nodes one)) IsUtf8-nil)
      (of_here.world name is) IsUtf8-nil

  utf8_topic_or_first : (name topic : List ℕ) → IsUtf8 name → IsUtf8 topic → IsUtf8 (topic_or_first here name topic)
  utf8_topic_or_first name [] first second = utf8_first_in name first
  utf8_topic_or_first name (b ∷ topic) first second = second

  utf8_by_key : (element : Element) (id : Option (List ℕ)) (target : Target) → IfSome id IsUtf8 → IsUtf8Target target
      → LeadsInUtf8 (lead_by_key here element id target)
  utf8_by_key element None target first second = utf8_lead_of element target second
  utf8_by_key element (Some id) targets.Nothing first second = tt
  utf8_by_key element (Some id) (targets.Local name reference) first second =
      utf8_lead_to element name (topic_or_first here name reference.topic) id
      (utf8_topic_or_first name reference.topic second.0 second.1) first
  utf8_by_key element (Some id) (targets.File name rest) first second =
      utf8_lead_of element (targets.File name rest) second
  utf8_by_key element (Some id) (targets.Other value) first second = second

  -- Keys

  utf8_answer : (element : Element) → IsUtf8Element element → IfSome (answer_of here element) IsUtf8Answer
  utf8_answer element is =
      of_option_map IsUtf8 IsUtf8Answer (λ keyref. here.key (key_of keyref)) (keyref_of element)
      (λ keyref one. of_here.key (key_of keyref) (utf8_key_of keyref one))
      (utf8_attribute_of (codes "keyref") element is.0)

  utf8_defined : (element : Element) → IsUtf8Element element → IfSome (defined_key here element) IsUtf8Answer
  utf8_defined element is =
      of_and_then IsUtf8Answer IsUtf8Answer if_defined (answer_of here element)
      (λ answer one. chosen (λ found. IfSome found IsUtf8Answer) (is_some answer.node) (Some answer) None one tt)
      (utf8_answer element is)

  -- Links and cross references

  utf8_in_topic : (topic : List ℕ) (target : Target) → IsUtf8 topic → IsUtf8Target target
      → IsUtf8Target (in_topic here topic target)
  utf8_in_topic topic targets.Nothing first second = tt
  utf8_in_topic topic (targets.Local name reference) first second =
      chosen IsUtf8Target ((length reference.file == 0) && bytes_eq reference.topic (codes ".")
      && not (length reference.element == 0)) (targets.Local here.page.id.doc (record reference { topic = topic }))
      (targets.Local name reference) (of_here.page.0, first, second.2) second
  utf8_in_topic topic (targets.File name rest) first second = second
  utf8_in_topic topic (targets.Other value) first second = second

  utf8_read_href : (topic : List ℕ) (element : Element) (href : Option (List ℕ)) → IsUtf8 topic → IsUtf8Element element
      → IfSome href IsUtf8 → IsUtf8Read (read_href here topic element href)
  utf8_read_href topic element None first second is = tt
  utf8_read_href topic element (Some href) first second is =
      let target = target_by href (format_of element) (scope_of element) element.href_doc in
      utf8_read_as element href (option_map (in_topic here topic) target)
      (of_option_map IsUtf8Target IsUtf8Target (in_topic here topic) target
      (λ found one. utf8_in_topic topic found first one)
      (utf8_target_by href (format_of element) (scope_of element) element.href_doc is second.2))

  utf8_href_or_nothing : (element : Element) → IsUtf8Element element
      → IsUtf8 (unwrap_or (attribute (codes "href") element) [])
  utf8_href_or_nothing element is =
      of_option IsUtf8 (attribute (codes "href") element) [] (utf8_attribute_of (codes "href") element is.0) IsUtf8-nil

  utf8_text_of_target : (element : Element) (target : Target) → IsUtf8Element element → IsUtf8Target target
      → IsUtf8 (text_of_target here element target)
  utf8_text_of_target element targets.Nothing first second = utf8_href_or_nothing element first
  utf8_text_of_target element (targets.Local name reference) first second =
      utf8_title_in here.world name reference.topic of_here.world second.0
  utf8_text_of_target element (targets.File name rest) first second = utf8_href_or_nothing element first
  utf8_text_of_target element (targets.Other value) first second = utf8_href_or_nothing element first

  utf8_linked_with : (topic : List ℕ) (element : Element) (answer : Option KeyAnswer) → IsUtf8 topic
      → IsUtf8Element element → IfSome answer IsUtf8Answer → IsUtf8Linked (linked_with here topic element answer)
  utf8_linked_with topic element None first second is =
      let href = attribute (codes "href") element in
      let read = read_href here topic element href in
      let read_is = utf8_read_href topic element href first second (utf8_attribute_of (codes "href") element second.0) in
      (utf8_lead_of element read.target read_is, utf8_text_of_target element read.target second read_is)
  utf8_linked_with topic element (Some answer) first second is =
      let id = option_and_then id_of_key (keyref_of element) in
      let id_is : IfSome id IsUtf8 =
      of_and_then IsUtf8 IsUtf8 id_of_key (keyref_of element) utf8_id_of_key
      (utf8_attribute_of (codes "keyref") element second.0) in
      (utf8_by_key element id answer.target id_is is.0, is.1)

  utf8_linked : (topic : List ℕ) (element : Element) → IsUtf8 topic → IsUtf8Element element
      → IsUtf8Linked (linked_of here topic element)
  utf8_linked topic element first second =
      utf8_linked_with topic element (defined_key here element) first second (utf8_defined element second)

  utf8_image : (element : Element) → IsUtf8Element element → IsUtf8Read (image_of here element)
  utf8_image element is =
      utf8_image_by element
      (option_map_or (λ (answer : KeyAnswer). answer.target) (defined_key here element) targets.Nothing) is
      (of_map_or IsUtf8Answer IsUtf8Target (λ (answer : KeyAnswer). answer.target) (defined_key here element)
      targets.Nothing (λ answer one. one.0) (utf8_defined element is) tt)

  -- What an element adds

  utf8_image_added : (standing : Standing) (read : HrefRead) → IsUtf8Read read
      → IsUtf8Added (image_added here standing read)
  utf8_image_added standing read is = (
    (
      chosen IsUtf8If (has_form shows_href standing.whole.0)
          (lead_of_target here standing.whole.0 read.target).href None
          (utf8_lead_of standing.whole.0 read.target is) tt,
      tt,
    ),
    tt,
  )

  abbrev IsUtf8LinkIf : Option PageLink → Type 0
  IsUtf8LinkIf link = IfSome link IsUtf8Link

  utf8_link_added : (element : Element) (lead : Lead) (label : List ℕ) → LeadsInUtf8 lead → IsUtf8 label
      → IsUtf8LinkIf (link_added here element lead label)
  utf8_link_added element lead label first second =
      chosen IsUtf8LinkIf (not (is_link element) || is_this_page here lead) None
      (option_map (λ href. record { kind = links.Related; href = href; label = label }) lead.href) tt
      (of_option_map IsUtf8 IsUtf8Link (λ href. record { kind = links.Related; href = href; label = label }) lead.href
      (λ href is. (is, second)) first)

  utf8_linked_added : (standing : Standing) (linked : Linked) → IsUtf8Standing standing → IsUtf8Linked linked
      → IsUtf8Added (linked_added here standing linked)
  utf8_linked_added standing linked first second =
      let element = standing.whole.0 in
      let labelled = link_label standing.whole.1 linked.label in
      let label = if is_link element then labelled else linked.label in
      let label_is : IsUtf8 label =
      chosen IsUtf8 (is_link element) labelled linked.label
      (utf8_link_label standing.whole.1 linked.label first.whole.1 second.1) second.1 in (
        (chosen IsUtf8If (holds_link here element) linked.lead.href None second.0 tt, label_is),
        utf8_link_added element linked.lead label second.0 label_is,
      )

  utf8_topic_here : (standing : Standing) → IsUtf8Standing standing → IsUtf8 (topic_here standing)
  utf8_topic_here standing is =
      let own = unwrap_or (attribute (codes "id") standing.whole.0) [] in
      let around = option_map_or (λ (topic : TopicAt). topic.id) standing.topic [] in
      let has_id : TopicAt → Type 0 = λ topic. IsUtf8 topic.id in
      chosen IsUtf8 (is_topic standing.whole.0) own around
      (of_option IsUtf8 (attribute (codes "id") standing.whole.0) []
      (utf8_attribute_of (codes "id") standing.whole.0 is.whole.0.0) IsUtf8-nil)
      (of_map_or has_id IsUtf8 (λ (topic : TopicAt). topic.id) standing.topic [] (λ topic one. one) is.topic IsUtf8-nil)

  utf8_added_by : (standing : Standing) → IsUtf8Standing standing → IsUtf8Added (added_by here standing)
  utf8_added_by standing is =
      let element = standing.whole.0 in
      let topic = topic_here standing in
      let image = image_added here standing (image_of here element) in
      let linked = linked_added here standing (linked_of here topic element) in
      let leads = is_xref element || is_link element || is_some (defined_key here element) in
      chosen IsUtf8Added (is_image element) image (if leads then linked else nothing_added [])
      (utf8_image_added standing (image_of here element) (utf8_image element is.whole.0))
      (chosen IsUtf8Added leads linked (nothing_added [])
      (utf8_linked_added standing (linked_of here topic element) is
      (utf8_linked topic element (utf8_topic_here standing is) is.whole.0)) (tt, tt))

  utf8_added_of : (standing : Standing) → IsUtf8Standing standing → IsUtf8Added (added_of here standing)
  utf8_added_of standing is =
      chosen IsUtf8Added (has_types standing.whole.0) (record (added_by here standing) {
        faults = key_faults_of here standing.whole.0 ++ (added_by here standing).faults;
      }) (nothing_added []) (utf8_added_by standing is) (tt, tt)

  utf8_added_all : (nodes : Written) → IsUtf8Content nodes → AllByRecursion IsUtf8Added (added_all here nodes)
  utf8_added_all nodes all =
      of_mapped IsUtf8Standing IsUtf8Added (added_of here) (all_standing nodes) utf8_added_of
      (utf8_all_standing nodes all)

  pub utf8_anchors : (nodes : Written) → IsUtf8Content nodes → AllByRecursion IsUtf8Anchor (anchors here nodes)
  utf8_anchors nodes all =
      of_filter_map IsUtf8Added IsUtf8Anchor (λ (added : Added). added.anchor) (added_all here nodes)
      (λ added is. is.0) (utf8_added_all nodes all)

  pub utf8_element_links : (nodes : Written) → IsUtf8Content nodes → AllByRecursion IsUtf8Link (element_links here nodes)
  utf8_element_links nodes all =
      of_filter_map IsUtf8Added IsUtf8Link (λ (added : Added). added.link) (added_all here nodes) (λ added is. is.1)
      (utf8_added_all nodes all)
