-- What each element of a body adds (own), as the code has it.
use Rattle.std.specs.Arc.{arc_value}
use Rattle.std.specs.Prelude.{◌≡◌, ◌+◌, ◌<◌, ◌++◌, ◌&&◌, ℕ, Bool, not, List, [], ◌∷◌, Option, Some, None, codes, is_some, length, map, option_map, slice_get, if◌then◌else◌}
use Rattle.std.specs.List.{filter_map, flat_map}
use Rattle.std.specs.Option.{option_and_then, option_copied, option_map_or, option_to_list}
use Rattle.dita_doc.specs.Siblings.{content}
use Rattle.dita_doc.specs.declared.content.Anchor.{Anchor}
use Rattle.dita_doc.specs.declared.content.KeyAnswer.{KeyAnswer}
use Rattle.dita_doc.specs.declared.content.LinkKind.TheVariants as links
use Rattle.dita_doc.specs.declared.content.PageLink.{PageLink}
use Rattle.dita_doc.specs.declared.fault.Fault.{Fault}
use Rattle.dita_doc.specs.declared.fault.FaultCode.TheVariants as faults
use Rattle.dita_doc.specs.declared.plan.Target.{Target}
use Rattle.dita_doc.specs.declared.plan.Target.TheVariants as targets
use Rattle.href_text.specs.Joined.{relative_path}
use Rattle.map_spec.specs.Elements.{attribute, fault_at}
use Rattle.map_spec.specs.Keys.{id_of_key, key_answer}
use Rattle.map_spec.specs.Pages.{page_for}
use Rattle.map_spec.specs.Written.{Element, Whole, Written, End}
use Rattle.html_spec.specs.Anchors as anchors
use Rattle.html_spec.specs.Anchors.{Added, Here, HrefRead, added_of, if_defined, is_this_page, keyref_of}
use Rattle.map_spec.specs.Places as places
use Rattle.map_spec.specs.Places.{TopicAt, standing_from}
use Rattle.readers.specs.Setting.{Stand}
use Rattle.xref_links.specs.Body.{body_element, written_at}
use Rattle.xref_links.specs.declared.keyed.Keyed.{Keyed}
use Rattle.xref_links.specs.declared.lead.Lead.{Lead}
use Rattle.xref_links.specs.declared.made.AnchorsMade.{AnchorsMade}
use Rattle.xref_links.specs.declared.page.PageRead.{PageRead}
use Rattle.xref_links.specs.declared.page.PlacedElement.{PlacedElement}

-- Where an element is read

-- a page of the plan that a reader was made for, by a context of which it is the page
pub record IsHere (stand : Stand) (page : PageRead) (here : Here) : Type 0 where
  pub key : (text : List ℕ)
      → key_answer here.world stand.setting.nodes (arc_value page.context.now).page.scope text ≡ here.key text
  pub pages : stand.setting.pages ≡ here.pages
  pub plan : page.plan.now.pages ≡ here.pages
  pub there : slice_get here.pages here.number ≡ Some here.page
  pub first : page_for here.pages (arc_value page.context.now).page.doc (arc_value page.context.now).page
      ≡ Some here.number
  pub id : here.page.id ≡ (arc_value page.context.now).page
  pub name : here.page.name ≡ (arc_value page.context.now).name

-- an element is one of the page's body
pub record IsPlaced (page : PageRead) (standing : PlacedElement) : Type 0 where
  pub place : standing.place < length page.body.now.doc.nodes
  pub origin : standing.node.now.origin < length page.body.now.doc.origins

abbrev pub element_of : PageRead → PlacedElement → Element
element_of page standing = body_element page.body.now standing.place standing.node.now

abbrev pub inside_of : PageRead → PlacedElement → Written
inside_of page standing = written_at page.body.now (standing.place + 1) (content standing.inside)

abbrev pub whole_of : PageRead → PlacedElement → Whole
whole_of page standing = (element_of page standing, inside_of page standing)

-- the element where it stands
abbrev pub stands : PageRead → PlacedElement → Option TopicAt → Option Element → Written → places.Standing
stands page standing around before behind = record {
  place = standing.place;
  whole = whole_of page standing;
  topic = around;
  before = before;
  behind = behind;
}

-- an element in a topic, of which its neighbours do not matter
abbrev pub stands_in : PageRead → PlacedElement → Option TopicAt → places.Standing
stands_in page standing around = stands page standing around None End

-- and one of which the topic does not matter
abbrev pub alone : PageRead → PlacedElement → places.Standing
alone page standing = stands_in page standing None

-- Parts

-- what an href leads to, with its faults behind others
pub record IsRead (read : HrefRead) (target : Target) (old new : List Fault) : Type 0 where
  pub leads : target ≡ read.target
  pub faults : new ≡ old ++ read.faults

-- where a target leads, with its faults behind others
pub record IsLead (here : Here) (defined : anchors.Lead) (lead : Lead) (old new : List Fault) : Type 0 where
  pub href : lead.href ≡ defined.href
  pub own : lead.is_own ≡ is_this_page here defined
  pub faults : new ≡ old ++ defined.faults

-- the href of what is no document of ours, seen from the page of a name
abbrev pub href_outside : List ℕ → Target → Option (List ℕ)
href_outside name targets.Nothing = None
href_outside name (targets.Local document reference) = None
href_outside name (targets.File file rest) = Some (relative_path name file ++ rest)
href_outside name (targets.Other value) = Some value

-- what a defined key gives, and the id behind it
pub record IsGiven (keyref : Option (List ℕ)) (answer : KeyAnswer) (keyed : Keyed) : Type 0 where
  pub id : option_copied keyed.id ≡ option_and_then id_of_key keyref
  pub target : keyed.target ≡ answer.target
  pub label : keyed.label ≡ answer.label

-- a key that is defined gives this, and another nothing
abbrev pub IsKeyed : Option (List ℕ) → Option KeyAnswer → Option Keyed → Type 0
IsKeyed keyref None None = Unit {0}
IsKeyed keyref None (Some keyed) = ⊥
IsKeyed keyref (Some answer) None = ⊥
IsKeyed keyref (Some answer) (Some keyed) = IsGiven keyref answer keyed

abbrev pub target_of : Option Keyed → Target
target_of keyed = option_map_or (λ (found : Keyed). found.target) keyed targets.Nothing

-- a key's answer, with its faults behind others
pub record HasKey (here : Here) (element : Element) (keyed : Option Keyed) (old new : List Fault) : Type 0 where
  pub is : IsKeyed (keyref_of element) (anchors.defined_key here element) keyed
  pub faults : new ≡ old ++ anchors.key_faults_of here element

-- the fault of an undefined key, unless an href stands beside it
abbrev pub undefined_faults : Element → List ℕ → List Fault
undefined_faults element key = if is_some (attribute (codes "href") element) then []
    else fault_at element faults.KeyUndefined key ∷ []

-- what an answer gives, if the key is defined, with its faults behind others
pub record IsKeyedBy (element : Element) (key : List ℕ) (behind : Option (List ℕ)) (answer : KeyAnswer)
    (keyed : Option Keyed) (old new : List Fault) : Type 0 where
  pub id : option_map (λ (found : Keyed). option_copied found.id) keyed
      ≡ option_map (λ (found : KeyAnswer). behind) (if_defined answer)
  pub target : option_map (λ (found : Keyed). found.target) keyed
      ≡ option_map (λ (found : KeyAnswer). found.target) (if_defined answer)
  pub label : option_map (λ (found : Keyed). found.label) keyed
      ≡ option_map (λ (found : KeyAnswer). found.label) (if_defined answer)
  pub faults : new ≡ old ++ (answer.faults ++ (if is_some answer.node then [] else undefined_faults element key))

-- the link to an href
abbrev pub link_to : Option (List ℕ) → List ℕ → Option PageLink
link_to href label = option_map (λ h. record { kind = links.Related; href = h; label = label }) href

-- the text of an element, that of its linktext if it is a link and has one
abbrev pub label_with : Bool → Written → List ℕ → List ℕ
label_with is_link inside label = if is_link then anchors.link_label inside label else label

-- a target by an href that could be read
abbrev pub read_as : Target → HrefRead
read_as target = record { target = target; faults = [] }

-- what an element adds that leads there and shows a text
abbrev pub added_with : ℕ → Bool → Lead → Bool → List ℕ → Added
added_with place is_link lead holds label = record {
  anchor = Some (record { place = place; href = if holds then lead.href else None; label = Some label });
  link = if is_link && not lead.is_own then link_to lead.href label else None;
  faults = [];
}

-- Adding

-- what an element adds, behind what others added
pub record HasMore (old new : AnchorsMade) (added : Added) : Type 0 where
  pub anchors : new.anchors ≡ old.anchors ++ option_to_list added.anchor
  pub links : new.links ≡ old.links ++ option_to_list added.link
  pub faults : new.faults ≡ old.faults ++ added.faults

abbrev pub anchors_of : List Added → List Anchor
anchors_of all = filter_map (λ (added : Added). added.anchor) all

abbrev pub links_of : List Added → List PageLink
links_of all = filter_map (λ (added : Added). added.link) all

abbrev pub faults_of : List Added → List Fault
faults_of all = flat_map (λ (added : Added). added.faults) all

-- what all of some elements add
pub record HaveMore (old new : AnchorsMade) (all : List Added) : Type 0 where
  pub anchors : new.anchors ≡ old.anchors ++ anchors_of all
  pub links : new.links ≡ old.links ++ links_of all
  pub faults : new.faults ≡ old.faults ++ faults_of all

-- what has been added of all, and what is left
pub record AreOnTheWay (old new : AnchorsMade) (all left : List Added) : Type 0 where
  pub anchors : old.anchors ++ anchors_of all ≡ new.anchors ++ anchors_of left
  pub links : old.links ++ links_of all ≡ new.links ++ links_of left
  pub faults : old.faults ++ faults_of all ≡ new.faults ++ faults_of left

-- what the elements of some nodes add, the first node at this place
abbrev pub added_from : Here → ℕ → Option TopicAt → Written → List Added
added_from here place around nodes = map (added_of here) (standing_from place around None nodes)

-- the id of the nearest topic
abbrev pub topic_id : Option TopicAt → List ℕ
topic_id around = option_map_or (λ (topic : TopicAt). topic.id) around []

pub record IsEmpty (made : AnchorsMade) : Type 0 where
  pub anchors : made.anchors ≡ []
  pub links : made.links ≡ []
  pub faults : made.faults ≡ []
