-- Which topics of a document are wanted, and what titles they have.
use Rattle.std.specs.Prelude.{◌&&◌, ℕ, Bool, true, List, Option, Some, None, [], find, codes}
use Rattle.std.specs.Option.{option_map_or}
use Rattle.std.specs.Borrow.{Bor}
use Rattle.map_spec.specs.Elements.{has_value, is_a}
use Rattle.map_spec.specs.Titles.{title_of_topic, topics}
use Rattle.map_spec.specs.Written.{Element, Whole, Written}

-- of topics one of this id is wanted, or any
abbrev pub is_wanted : Option (Bor (List ℕ)) → Element → Bool
is_wanted None topic = true
is_wanted (Some id) topic = has_value (codes "id") id.now topic

abbrev pub is_wanted_topic : Option (Bor (List ℕ)) → Element → Bool
is_wanted_topic wanted element = is_a (codes "topic/topic") element && is_wanted wanted element

-- the first topic that is wanted, in document order
abbrev pub topic_wanted : Option (Bor (List ℕ)) → Written → Option Whole
topic_wanted wanted nodes = find (λ (topic : Whole). is_wanted wanted topic.0) (topics nodes)

-- the title of a topic that may be there
abbrev pub title_if_there : Option Whole → List ℕ
title_if_there topic = option_map_or title_of_topic topic []
