-- Documents whose kinds, titles and ids are known by hand.
use Prim.Native.String.{String}
use Rattle.std.specs.Prelude.{◌≡◌, List, [], ◌∷◌, refl, codes}
use Rattle.dita_doc.specs.Tree.{Content}
use Rattle.dita_doc.specs.declared.question.DocKind.TheVariants as kinds
use Rattle.map_spec.specs.Titles.{first_in, kind_in, title_in}
use Rattle.reader_spec.specs.World.{World}
use Rattle.language_examples.proofs.Short.{classed, ditaval, doc, given, map_doc, of_topic, plain, text, these, topic}

abbrev titled : String → List Content → Content
titled id inside = of_topic "topic" (given "id" id ∷ []) inside

abbrev title : String → Content
title words = of_topic "title" [] (text words ∷ [])

abbrev world : World
world = these (topic "t.dita" "t"
    ∷ doc "n.dita" (titled "a" (plain "x" [] (title " One  1 " ∷ []) ∷ title "no" ∷ titled "b" (title "Two" ∷ [])
    ∷ titled "c" [] ∷ []))
    ∷ doc "d.dita" (plain "dita" [] (titled "a" [] ∷ titled "b" (title "Two" ∷ [])
    ∷ of_topic "topic" [] (title "Three" ∷ []) ∷ []))
    ∷ doc "c.dita" (classed "dita" (codes "- topic/topic concept/concept ") [] (title "C" ∷ []))
    ∷ doc "e.dita" (plain "dita" [] []) ∷ map_doc "m.ditamap" (title "M" ∷ []) ∷ ditaval "v.ditaval" [] ∷ [])

-- Kinds: by the type of the root, a topic first, then the name `dita`

-- a root of the type of topics is a topic
topic_is_topic : kind_in world (codes "t.dita") ≡ kinds.Topic
topic_is_topic = refl

-- also if it is named `dita`
special_topic_is_topic : kind_in world (codes "c.dita") ≡ kinds.Topic
special_topic_is_topic = refl

-- another root of that name is one
dita_is_dita : kind_in world (codes "d.dita") ≡ kinds.Dita
dita_is_dita = refl

-- a root of the type of maps is a map
map_is_map : kind_in world (codes "m.ditamap") ≡ kinds.Map
map_is_map = refl

-- any other root is something else
ditaval_is_other : kind_in world (codes "v.ditaval") ≡ kinds.Other
ditaval_is_other = refl

-- a document that is not stored is absent
not_stored : kind_in world (codes "n") ≡ kinds.Absent
not_stored = refl

-- Titles

-- the plain text of the first title among the children of the first topic
first_title : title_in world (codes "n.dita") [] ≡ codes "One 1"
first_title = refl

-- of the topic that is named
title_of_named : title_in world (codes "n.dita") (codes "b") ≡ codes "Two"
title_of_named = refl

-- where that has none, or is not there, of the first topic
named_without_title : title_in world (codes "n.dita") (codes "c") ≡ codes "One 1"
named_without_title = refl

-- so it is where no topic has that id
no_such_topic : title_in world (codes "n.dita") (codes "z") ≡ codes "One 1"
no_such_topic = refl

-- where the first has none, the document's name
first_without_title : title_in world (codes "d.dita") [] ≡ codes "d.dita"
first_without_title = refl

-- the topic that is named comes before the first
second_with_title : title_in world (codes "d.dita") (codes "b") ≡ codes "Two"
second_with_title = refl

-- so it is where there are no topics
no_topics : title_in world (codes "e.dita") [] ≡ codes "e.dita"
no_topics = refl

-- and where there is no document
no_document : title_in world (codes "n") (codes "a") ≡ codes "n"
no_document = refl

-- a map has no topics
title_of_map : title_in world (codes "m.ditamap") [] ≡ codes "m.ditamap"
title_of_map = refl

-- Ids: that of the first topic, else nothing

-- the first topic in document order
first_id : first_in world (codes "d.dita") ≡ codes "a"
first_id = refl

-- an id that is not written is empty
no_id : first_in world (codes "c.dita") ≡ []
no_id = refl

-- where there is no topic, nothing
no_first_topic : first_in world (codes "m.ditamap") ≡ []
no_first_topic = refl
