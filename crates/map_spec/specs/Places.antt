-- Where the elements of a document stand, and the element that a fragment names (DITA 1.3, "URI-based (direct) addressing",
-- "DITA-local references"). That a topic fits only as a topic is our own.
use Rattle.std.specs.Prelude.{◌+◌, ◌==◌, ◌&&◌, ℕ, Bool, false, not, List, [], ◌∷◌, ◌++◌, Option, Some, None, find, length, bytes_eq, codes, if◌then◌else◌}
use Rattle.std.specs.Option.{option_map_or}
use Rattle.map_spec.specs.Elements.{is_a}
use Rattle.map_spec.specs.Titles.{has_id, id_of}
use Rattle.map_spec.specs.Written.{Element, Whole, Written, End, Chars, Node, size}

-- a topic by its place and its id
pub record TopicAt : Type 0 where
  pub place : ℕ
  pub id : List ℕ

-- an element where it stands: its place in document order, what it holds, the nearest topic around it, the element before
-- it and the nodes behind it among its siblings
pub record Standing : Type 0 where
  pub place : ℕ
  pub whole : Whole
  pub topic : Option TopicAt
  pub before : Option Element
  pub behind : Written

abbrev pub is_topic : Element → Bool
is_topic element = is_a (codes "topic/topic") element

abbrev pub topic_inside : ℕ → Element → Option TopicAt → Option TopicAt
topic_inside place element topic =
    if is_topic element then Some (record { place = place; id = id_of element }) else topic

-- the elements of these nodes and below, the first node at this place
abbrev pub standing_from : ℕ → Option TopicAt → Option Element → Written → List Standing
standing_from place topic before End = []
standing_from place topic before (Chars text doc rest) = standing_from (place + 1) topic before rest
standing_from place topic before (Node element inside rest) =
    record {
      place = place;
      whole = (element, inside);
      topic = topic;
      before = before;
      behind = rest;
    }
    ∷ (standing_from (place + 1) (topic_inside place element topic) None inside
    ++ standing_from (place + 1 + size inside) topic (Some element) rest)

abbrev pub all_standing : Written → List Standing
all_standing nodes = standing_from 0 None None nodes

-- Targets

abbrev pub is_topic_there : Standing → Bool
is_topic_there standing = is_topic standing.whole.0

abbrev pub first_topic : List Standing → Option Standing
first_topic all = find is_topic_there all

abbrev pub is_topic_with : List ℕ → Standing → Bool
is_topic_with id standing = is_topic_there standing && has_id id standing.whole

-- the nearest topic around an element is the topic that is named, or, without a name, the first
abbrev pub is_topic_meant : List Standing → List ℕ → TopicAt → Bool
is_topic_meant all topic around = if length topic == 0
    then option_map_or (λ (first : Standing). first.place == around.place) (first_topic all) false
    else bytes_eq topic around.id

abbrev pub is_element_meant : List Standing → List ℕ → List ℕ → Standing → Bool
is_element_meant all topic element standing =
    not (is_topic_there standing) && has_id element standing.whole
    && option_map_or (is_topic_meant all topic) standing.topic false

abbrev pub topic_meant : List Standing → List ℕ → Option Standing
topic_meant all topic = if length topic == 0 then first_topic all else find (is_topic_with topic) all

abbrev pub target_among : List Standing → List ℕ → List ℕ → Option Standing
target_among all topic element = if length element == 0 then topic_meant all topic
    else find (is_element_meant all topic element) all

-- the first element of a document that a fragment names
abbrev pub target_in : Written → List ℕ → List ℕ → Option Standing
target_in nodes topic element = target_among (all_standing nodes) topic element
