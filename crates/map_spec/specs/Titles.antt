-- What a document is, its title, and its first topic (DITA 1.3, "DITA topics", "DITA maps"). That the stored document
-- counts, and the name of a document without a title, are our own.
use Rattle.std.specs.Prelude.{◌==◌, ℕ, Bool, List, [], ◌∷◌, ◌++◌, Option, None, filter, find, length, option_map, unwrap_or, slice_get, codes, if◌then◌else◌}
use Rattle.std.specs.List.{filter_map}
use Rattle.std.specs.Option.{option_map_or}
use Rattle.dita_doc.specs.declared.question.DocKind.{DocKind}
use Rattle.dita_doc.specs.declared.question.DocKind.TheVariants as kinds
use Rattle.reader_spec.specs.World.{World}
use Rattle.map_spec.specs.Elements.{attribute, first_child, is_a, is_dita, is_value, is_whole, text_of}
use Rattle.map_spec.specs.Written.{Element, Whole, Written, document, elements_below, first_sibling}

abbrev pub kind_of_root : Element → DocKind
kind_of_root root =
    if is_a (codes "topic/topic") root then kinds.Topic
    else if is_dita root then kinds.Dita
    else if is_a (codes "map/map") root then kinds.Map
    else kinds.Other

-- what a document is, by its root
abbrev pub kind_of_document : Written → DocKind
kind_of_document nodes = option_map_or (λ (root : Whole). kind_of_root root.0) (first_sibling nodes) kinds.Absent

abbrev pub kind_in : World → List ℕ → DocKind
kind_in world name = option_map_or kind_of_document (document world name) kinds.Absent

-- the topics of a document, in document order
abbrev pub topics : Written → List Whole
topics nodes = filter (is_whole (codes "topic/topic")) (elements_below nodes)

-- an id that is not written is empty
abbrev pub id_of : Element → List ℕ
id_of element = unwrap_or (attribute (codes "id") element) []

abbrev pub has_id : List ℕ → Whole → Bool
has_id id whole = is_value id (attribute (codes "id") whole.0)

-- the topic that is named, if the text names one
abbrev pub topic_named : List ℕ → List Whole → Option Whole
topic_named topic all = if length topic == 0 then None else find (has_id topic) all

-- the plain text of a topic's title
abbrev pub title_of_topic : Whole → List ℕ
title_of_topic topic = text_of (first_child (codes "topic/title") topic.1)

-- the first text that is not empty
abbrev pub first_text : List (List ℕ) → List ℕ
first_text [] = []
first_text ([] ∷ texts) = first_text texts
first_text ((b ∷ text) ∷ texts) = b ∷ text

-- the title of the topic that is named, else of the first topic, else the document's name
abbrev pub title_among : List ℕ → List ℕ → List Whole → List ℕ
title_among name topic all = first_text
    (filter_map (option_map title_of_topic) (topic_named topic all ∷ slice_get all 0 ∷ []) ++ name ∷ [])

abbrev pub title_of_document : List ℕ → List ℕ → Written → List ℕ
title_of_document name topic nodes = title_among name topic (topics nodes)

-- a document that is not stored has its name
abbrev pub title_in : World → List ℕ → List ℕ → List ℕ
title_in world name topic = option_map_or (title_of_document name topic) (document world name) name

-- the id of a document's first topic
abbrev pub first_of_document : Written → List ℕ
first_of_document nodes = option_map_or (λ (topic : Whole). id_of topic.0) (slice_get (topics nodes) 0) []

abbrev pub first_in : World → List ℕ → List ℕ
first_in world name = option_map_or first_of_document (document world name) []
