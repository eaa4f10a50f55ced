-- A table of what fragments name (own): what it finds.
use Rattle.std.specs.Prelude.{◌≡◌, ◌==◌, ◌&&◌, ◌++◌, ℕ, Bool, false, List, Option, Some, None, length, option_map, is_some, if◌then◌else◌}
use Rattle.std.specs.Option.{option_map_or, option_or}
use Rattle.std.specs.BTreeMap as tree
use Rattle.std.specs.List.{list_any}
use Rattle.std.specs.Ordering.{is_eq, ordering_then}
use Rattle.std.specs.declared.cmp.Ordering.{Ordering}
use Rattle.dita_doc.specs.TextOrder.{text_cmp}
use Rattle.map_spec.specs.Written.{Element, Written}
use Rattle.map_spec.specs.Places.{Standing, TopicAt, all_standing, first_topic, standing_from, target_among}
use Rattle.topic_find.specs.Walk.{place_of}
use Rattle.topic_find.specs.declared.table.Fragment.{Fragment}
use Rattle.topic_find.specs.declared.table.TargetTable.{TargetTable}

abbrev pub fragment_cmp : Fragment → Fragment → Ordering
fragment_cmp one other = ordering_then (text_cmp one.topic other.topic) (text_cmp one.element other.element)

abbrev pub fragment_of : List ℕ → List ℕ → Fragment
fragment_of topic element = record { topic = topic; element = element }

abbrev pub topic_in : TargetTable → List ℕ → Option ℕ
topic_in table topic = if length topic == 0 then table.first_topic else tree.get text_cmp table.topics topic

-- the place of the element that a fragment names
abbrev pub place_of_fragment : TargetTable → List ℕ → List ℕ → Option ℕ
place_of_fragment table topic element =
    if length element == 0 then topic_in table topic
    else if length topic == 0 then tree.get text_cmp table.in_first_topic element
    else tree.get fragment_cmp table.elements (fragment_of topic element)

-- a place for a key, unless there is one
abbrev pub or_at : Option ℕ → Bool → ℕ → Option ℕ
or_at found is place = option_or found (if is then Some place else None)

abbrev pub is_first_topic : Option ℕ → ℕ → Bool
is_first_topic first place = option_map_or (λ (own : ℕ). own == place) first false

-- a table with one more topic
pub record HasTopicMore (old new : TargetTable) (place : ℕ) (id : List ℕ) : Type 0 where
  pub first : new.first_topic ≡ option_or old.first_topic (Some place)
  pub topics : (other : List ℕ) → tree.get text_cmp new.topics other
      ≡ or_at (tree.get text_cmp old.topics other) (is_eq (text_cmp id other)) place
  pub elements : new.elements ≡ old.elements
  pub in_first : new.in_first_topic ≡ old.in_first_topic

-- a table with one more element that is no topic
pub record HasElementMore (old new : TargetTable) (place : ℕ) (id : List ℕ) (topic : TopicAt) : Type 0 where
  pub first : new.first_topic ≡ old.first_topic
  pub topics : new.topics ≡ old.topics
  pub elements : (other : Fragment) → tree.get fragment_cmp new.elements other
      ≡ or_at (tree.get fragment_cmp old.elements other) (is_eq (fragment_cmp (fragment_of topic.id id) other)) place
  pub in_first : (other : List ℕ) → tree.get text_cmp new.in_first_topic other
      ≡ or_at (tree.get text_cmp old.in_first_topic other)
      (is_first_topic old.first_topic topic.place && is_eq (text_cmp id other)) place

-- no element stands in a topic before there is a topic
abbrev pub has_topic_around : Standing → Bool
has_topic_around standing = is_some standing.topic

-- a table gives what fragments name among the elements that were seen
pub record IsTableOf (table : TargetTable) (seen : List Standing) : Type 0 where
  pub places : (topic element : List ℕ) → place_of_fragment table topic element
      ≡ option_map place_of (target_among seen topic element)
  pub around : first_topic seen ≡ None → list_any has_topic_around seen ≡ false

-- an element at this place, in this topic, if there is one then it was seen
pub record IsNext (seen : List Standing) (one : Standing) (at : ℕ) (label : Element) (nearest : Option TopicAt)
    : Type 0 where
  pub place : one.place ≡ at
  pub element : one.whole.0 ≡ label
  pub topic : one.topic ≡ nearest
  pub inside : first_topic seen ≡ None → nearest ≡ None

-- a table of all elements before some nodes
pub record IsOnTheWay (table : TargetTable) (at : ℕ) (nearest : Option TopicAt) (rest : Written) (all : List Standing)
    : Type 0 where
  pub done : List Standing
  pub before : Option Element
  pub split : all ≡ done ++ standing_from at nearest before rest
  pub is : IsTableOf table done
  pub inside : first_topic done ≡ None → nearest ≡ None

-- the table of a document
abbrev pub IsTableFor : TargetTable → Written → Type 0
IsTableFor table nodes = IsTableOf table (all_standing nodes)
