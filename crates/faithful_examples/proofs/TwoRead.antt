-- The documents of a map with two topics, of which one gets one paragraph more and then the other another title: their
-- bodies, and what they are.
use Prim.Native.String.{String}
use Rattle.std.specs.Prelude.{◌≡◌, ◌++◌, ℕ, List, [], ◌∷◌, Ok, codes}
use Rattle.std.proofs.Common.{refl, arith}
use Rattle.dita_doc.specs.Pyx.{document_of}
use Rattle.dita_doc.specs.Tree.{Chars, Content, Element, End}
use Rattle.dita_doc.specs.declared.doc.Attribute.{Attribute}
use Rattle.faithful_examples.proofs.OneTopic.{given}
use Rattle.faithful_examples.proofs.Reading.{document_by}
use Rattle.faithful_examples.proofs.Shown.{lines}

abbrev pub in_a : List ℕ
in_a = codes "a.dita"

abbrev pub in_b : List ℕ
in_b = codes "b.dita"

-- Bodies

abbrev pub map_lines : List String
map_lines = "(map" ∷ "Aclass - map/map " ∷ "(topicref" ∷ "Aclass - map/topicref " ∷ "Ahref a.dita" ∷ ")topicref"
    ∷ "(topicref" ∷ "Aclass - map/topicref " ∷ "Ahref b.dita" ∷ ")topicref" ∷ ")map" ∷ []

abbrev pub a_front : List String
a_front = "(topic" ∷ "Aclass - topic/topic " ∷ "Aid a" ∷ "(title" ∷ "Aclass - topic/title " ∷ "-A" ∷ ")title" ∷ "(body"
    ∷ "Aclass - topic/body " ∷ "(p" ∷ "Aclass - topic/p " ∷ "-1" ∷ ")p" ∷ []

abbrev pub a_end : List String
a_end = ")body" ∷ ")topic" ∷ []

abbrev pub a_lines : List String
a_lines = a_front ++ a_end

-- with one paragraph more
abbrev pub longer_lines : List String
longer_lines = a_front ++ ("(p" ∷ "Aclass - topic/p " ∷ "-2" ∷ ")p" ∷ a_end)

abbrev pub b_lines : List String
b_lines = "(topic" ∷ "Aclass - topic/topic " ∷ "Aid b" ∷ "(title" ∷ "Aclass - topic/title " ∷ "-B" ∷ ")title"
    ∷ ")topic" ∷ []

-- with another title
abbrev pub other_lines : List String
other_lines = "(topic" ∷ "Aclass - topic/topic " ∷ "Aid b" ∷ "(title" ∷ "Aclass - topic/title " ∷ "-C" ∷ ")title"
    ∷ ")topic" ∷ []

abbrev pub map_body : List ℕ
map_body = lines map_lines

abbrev pub a_body : List ℕ
a_body = lines a_lines

abbrev pub longer_body : List ℕ
longer_body = lines longer_lines

abbrev pub b_body : List ℕ
b_body = lines b_lines

abbrev pub other_body : List ℕ
other_body = lines other_lines

-- Trees

abbrev pub map_tree : Content
map_tree = Element (codes "map") (given "class" "- map/map " ∷ []) 0 1
    (Element (codes "topicref") (given "class" "- map/topicref " ∷ given "href" "a.dita" ∷ []) 0 3 End
    (Element (codes "topicref") (given "class" "- map/topicref " ∷ given "href" "b.dita" ∷ []) 0 7 End End)) End

abbrev pub classed : String → Attribute
classed value = given "class" value

abbrev pub paragraph : ℕ → String → Content → Content
paragraph at text rest =
    Element (codes "p") (classed "- topic/p " ∷ []) 0 at (Chars (codes text) 0 0 End) rest

abbrev pub topic_with : String → String → Content → Content
topic_with id title behind = Element (codes "topic") (classed "- topic/topic " ∷ given "id" id ∷ []) 0 1
    (Element (codes "title") (classed "- topic/title " ∷ []) 0 4 (Chars (codes title) 0 0 End) behind) End

abbrev pub body_with : Content → Content
body_with inside = Element (codes "body") (classed "- topic/body " ∷ []) 0 8 inside End

abbrev pub a_tree : Content
a_tree = topic_with "a" "A" (body_with (paragraph 10 "1" End))

abbrev pub longer_tree : Content
longer_tree = topic_with "a" "A" (body_with (paragraph 10 "1" (paragraph 14 "2" End)))

abbrev pub b_tree : Content
b_tree = topic_with "b" "B" End

abbrev pub other_tree : Content
other_tree = topic_with "b" "C" End

-- Each body is its tree

pub map_reads : document_of map_body ≡ Ok map_tree
map_reads = document_by map_lines map_tree refl (omega arith) refl

pub a_reads : document_of a_body ≡ Ok a_tree
a_reads = document_by a_lines a_tree refl (omega arith) refl

pub longer_reads : document_of longer_body ≡ Ok longer_tree
longer_reads = document_by longer_lines longer_tree refl (omega arith) refl

pub b_reads : document_of b_body ≡ Ok b_tree
b_reads = document_by b_lines b_tree refl (omega arith) refl

pub other_reads : document_of other_body ≡ Ok other_tree
other_reads = document_by other_lines other_tree refl (omega arith) refl
