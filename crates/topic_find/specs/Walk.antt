-- The first element of a document that passes a test, and how far a walk goes that looks for it, if the document stands
-- under a name.
use Rattle.std.specs.Prelude.{◌+◌, ◌==◌, ◌&&◌, ℕ, Bool, true, false, not, List, Option, Some, None, option_map, find, bytes_eq, codes}
use Rattle.std.specs.Option.{option_map_or}
use Rattle.std.specs.Borrow.{Bor}
use Rattle.std.specs.declared.ops.ControlFlow.{ControlFlow}
use Rattle.std.specs.declared.ops.ControlFlow.TheVariants.{Continue, Break}
use Rattle.dita_doc.specs.Siblings.{content}
use Rattle.dita_doc.specs.declared.doc.Node as doc
use Rattle.dita_doc.specs.declared.siblings.Siblings.{Siblings}
use Rattle.map_spec.specs.Elements.{has_value}
use Rattle.map_spec.specs.Written.{Element, Written, size, written_in}
use Rattle.map_spec.specs.Places.{Standing, TopicAt, all_standing, is_topic, standing_from, target_in, topic_meant}
use Rattle.topic_find.specs.declared.meant.ElementMeant.{ElementMeant}
use Rattle.topic_find.specs.declared.meant.TopicAround.{TopicAround}
use Rattle.topic_find.specs.declared.meant.TopicMeant.{TopicMeant}
use Rattle.topic_find.specs.declared.meant.TopicMeant.TheVariants as topics

abbrev pub content_in : List ℕ → Siblings → Written
content_in name siblings = written_in name (content siblings)

abbrev pub element_of : List ℕ → doc.Node → Element
element_of name node =
    record { name = node.text; attributes = node.attributes; doc = name; line = node.line; href_doc = name }

-- The first that passes

-- a test of an element by the nearest topic around it
abbrev pub Test : Type 0
Test = Option TopicAt → Element → Bool

abbrev pub passes : Test → Standing → Bool
passes test standing = test standing.topic standing.whole.0

abbrev pub place_of : Standing → ℕ
place_of standing = standing.place

-- the place of the first element that passes, of these nodes and below, the first node at this place
abbrev pub first_place_passing : Test → ℕ → Option TopicAt → Written → Option ℕ
first_place_passing test place around nodes =
    option_map place_of (find (passes test) (standing_from place around None nodes))

-- where a walk ends: at the element that it looks for, or behind all nodes
abbrev pub ends_at : Option ℕ → ℕ → ControlFlow ℕ ℕ
ends_at None behind = Continue behind
ends_at (Some place) behind = Break place

abbrev pub walk_of : Test → ℕ → Option TopicAt → Written → ControlFlow ℕ ℕ
walk_of test place around nodes = ends_at (first_place_passing test place around nodes) (place + size nodes)

-- The tests

abbrev pub has_id : List ℕ → Element → Bool
has_id id element = has_value (codes "id") id element

-- an id, if one is wanted
abbrev pub has_id_wanted : Option (Bor (List ℕ)) → Element → Bool
has_id_wanted None element = true
has_id_wanted (Some id) element = has_id id.now element

-- a topic, and one of this id if an id is wanted
abbrev pub is_wanted : Option (Bor (List ℕ)) → Element → Bool
is_wanted wanted element = is_topic element && has_id_wanted wanted element

abbrev pub is_topic_wanted : Option (Bor (List ℕ)) → Test
is_topic_wanted wanted around element = is_wanted wanted element

abbrev pub topic_at : TopicAround → TopicAt
topic_at topic = record { place = topic.place; id = topic.id.now }

abbrev pub is_topic_meant : TopicMeant → TopicAt → Bool
is_topic_meant (topics.WithId id) topic = bytes_eq id.now topic.id
is_topic_meant (topics.At place) topic = place == topic.place

-- a topic that may be meant
abbrev pub is_one_meant : Option TopicMeant → TopicAt → Bool
is_one_meant meant topic = option_map_or (λ one. is_topic_meant one topic) meant false

abbrev pub is_in_topic : TopicMeant → Option TopicAt → Bool
is_in_topic meant around = option_map_or (is_topic_meant meant) around false

-- no topic, and one of the id that is meant, in the topic that is meant
abbrev pub is_element_meant : ElementMeant → Test
is_element_meant meant around element =
    not (is_topic element) && has_id meant.id.now element && is_in_topic meant.topic around

-- What a fragment names

abbrev pub target_place : Written → List ℕ → List ℕ → Option ℕ
target_place nodes topic element = option_map place_of (target_in nodes topic element)

abbrev pub topic_place : Written → List ℕ → Option ℕ
topic_place nodes topic = option_map place_of (topic_meant (all_standing nodes) topic)
