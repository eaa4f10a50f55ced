-- The script of a number and of a count of topics (own). Its first session puts three DITAVALs, a map and the topics,
-- and builds the map; a second and a third session each put one topic with another text, and build the map again. The
-- map has keys, one branch that is copied twice, and a relationship table; a topic uses a key, is filtered, and takes
-- content from another topic.
use Rattle.std.specs.Prelude.{◌+◌, ◌-◌, ◌*◌, ◌/◌, ◌%◌, ◌^◌, ℕ, zero, suc, List, [], ◌∷◌, ◌++◌, Some, codes, map}
use Rattle.std.specs.Fmt.{decimal}
use Rattle.std.specs.List.{flat_map}
use Rattle.dita_doc.specs.Request.{Put, Request, Single, Build}
use Rattle.script_text.specs.Printed.{step_text, steps_text}
use Rattle.script_text.specs.Script.{Step}
use Rattle.doc_gen.specs.Short.{of_domain, of_map, of_topic, plain, text}

-- Numbers

-- the numbers that follow this one: each is made of the one before it
abbrev pub drawn : ℕ → ℕ → ℕ
drawn number zero = number
drawn number (suc k) = (drawn number k * 6364136223846793005 + 1442695040888963407) % 2 ^ 64

-- the value of a draw is its upper bits
abbrev pub value_drawn : ℕ → ℕ → ℕ
value_drawn number k = drawn number k / 2 ^ 33

-- the numbers from this one on, so many of them
abbrev pub numbers_from : ℕ → ℕ → List ℕ
numbers_from first zero = []
numbers_from first (suc count) = first ∷ numbers_from (first + 1) count

-- DITAVALs

-- a DITAVAL that excludes one value of one attribute
unfoldable pub excluding : List ℕ → List ℕ → List ℕ
excluding attribute value = plain (codes "val") []
    (plain (codes "prop")
    ((codes "action", codes "exclude") ∷ (codes "att", attribute) ∷ (codes "val", value) ∷ []) [])

-- The map

abbrev pub topic_id : ℕ → List ℕ
topic_id index = codes "t" ++ decimal index

abbrev pub topic_name : ℕ → List ℕ
topic_name index = topic_id index ++ codes ".dita"

unfoldable pub topicref : ℕ → List ℕ → List ℕ
topicref index inside = of_map (codes "topicref") ((codes "href", topic_name index) ∷ []) inside

-- what a key stands for: a keyword
unfoldable pub key_meta : ℕ → List ℕ
key_meta key = of_map (codes "topicmeta") [] (of_topic (codes "keyword") [] (text (codes "Key " ++ decimal key)))

unfoldable pub keydef : ℕ → List ℕ
keydef key = of_domain (codes "map/topicref") (codes "mapgroup-d") (codes "keydef")
    ((codes "keys", codes "k" ++ decimal key) ∷ (codes "processing-role", codes "resource-only") ∷ [])
    (key_meta key)

-- the suffix that the names of a branch's pages get
unfoldable pub suffix_meta : List ℕ → List ℕ
suffix_meta platform = of_domain (codes "map/topicmeta") (codes "ditavalref-d") (codes "ditavalmeta") []
    (of_domain (codes "topic/data") (codes "ditavalref-d") (codes "dvrResourceSuffix") []
    (text (codes "-" ++ platform)))

-- a ditavalref to the DITAVAL of a platform, whose branch has the platform in the names of its pages
unfoldable pub ditavalref : List ℕ → List ℕ
ditavalref platform = of_domain (codes "map/topicref") (codes "ditavalref-d") (codes "ditavalref")
    ((codes "href", platform ++ codes ".ditaval") ∷ [])
    (suffix_meta platform)

unfoldable pub relcell : ℕ → List ℕ
relcell index = of_map (codes "relcell") [] (topicref index [])

unfoldable pub reltable : List ℕ
reltable = of_map (codes "reltable") [] (of_map (codes "relrow") [] (relcell 1 ++ relcell 2))

unfoldable pub book : ℕ → List ℕ
book topics = of_map (codes "map") [] (of_topic (codes "title") [] (text (codes "Book"))
    ++ flat_map keydef (numbers_from 1 3)
    ++ flat_map (λ index. topicref index []) (numbers_from 1 topics)
    ++ topicref 1 (ditavalref (codes "win") ++ ditavalref (codes "lin"))
    ++ reltable)

-- Topics

unfoldable pub paragraph : List (List ℕ × List ℕ) → List ℕ → List ℕ
paragraph attributes inside = of_topic (codes "p") attributes inside

-- the body of a topic, by its value, with this number in its text
unfoldable pub topic_body : ℕ → ℕ → ℕ → List ℕ
topic_body topics value number =
    let other = topic_id (1 + value % topics) in
    of_topic (codes "body") []
    (paragraph ((codes "id", codes "s") ∷ []) (text (codes "Text " ++ decimal number))
    ++ paragraph [] (of_topic (codes "ph") ((codes "keyref", codes "k" ++ decimal (1 + value % 3)) ∷ []) [])
    ++ paragraph ((codes "audience", codes "internal") ∷ []) (text (codes "I"))
    ++ paragraph ((codes "platform", codes "win") ∷ []) (text (codes "W"))
    ++ paragraph ((codes "platform", codes "lin") ∷ []) (text (codes "L"))
    ++ paragraph ((codes "conref", other ++ codes ".dita#" ++ other ++ codes "/s") ∷ []) [])

-- the topic of this index
unfoldable pub topic : ℕ → ℕ → ℕ → ℕ → List ℕ
topic topics index value number = of_topic (codes "topic") ((codes "id", topic_id index) ∷ [])
    (of_topic (codes "title") [] (text (codes "Topic " ++ decimal index)) ++ topic_body topics value number)

-- Requests

abbrev pub asks : ℕ → Request → Step
asks session request = record { session = session; request = request }

abbrev pub puts : ℕ → List ℕ → List ℕ → Step
puts session name body = asks session (Single (Put name body))

-- a put's text
unfoldable pub put_text : ℕ → List ℕ → List ℕ → List ℕ
put_text session name body = step_text (puts session name body)

abbrev pub builds : ℕ → Step
builds session = asks session (Build (codes "book.ditamap") (Some (codes "val.ditaval")))

abbrev pub puts_topic : ℕ → ℕ → ℕ → ℕ → ℕ → Step
puts_topic number topics session index text_number =
    puts session (topic_name index) (topic topics index (value_drawn number index) text_number)

-- a topic as it is put first: its text has a number by its own value
abbrev pub puts_first : ℕ → ℕ → ℕ → Step
puts_first number topics index = puts_topic number topics 1 index (value_drawn number index % 1000)

-- a session puts a topic again, which this draw chooses, with a number by the draw behind it, and builds the map
abbrev pub edits_by : ℕ → ℕ → ℕ → ℕ → List Step
edits_by number topics session draw =
    puts_topic number topics session (1 + value_drawn number draw % topics) (value_drawn number (draw + 1) % 1000)
    ∷ builds session ∷ []

abbrev pub project_steps : ℕ → ℕ → List Step
project_steps number topics =
    puts 1 (codes "val.ditaval") (excluding (codes "audience") (codes "internal"))
    ∷ puts 1 (codes "win.ditaval") (excluding (codes "platform") (codes "lin"))
    ∷ puts 1 (codes "lin.ditaval") (excluding (codes "platform") (codes "win"))
    ∷ puts 1 (codes "book.ditamap") (book topics)
    ∷ map (puts_first number topics) (numbers_from 1 topics)
    ++ builds 1 ∷ edits_by number topics 2 (topics + 1) ++ edits_by number topics 3 (topics + 3)

-- the script of a number and of a count of topics, which is 2 to 4000
unfoldable pub project : ℕ → ℕ → List ℕ
project number topics = steps_text (project_steps number topics)
