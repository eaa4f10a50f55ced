-- The map with one topic, its topic, and the topic with another title: the documents that their bodies are.
use Prim.Native.String.{String}
use Rattle.std.specs.Prelude.{◌≡◌, ℕ, List, [], ◌∷◌, Ok, codes}
use Rattle.std.proofs.Common.{refl, arith}
use Rattle.dita_doc.specs.Pyx.{document_of}
use Rattle.dita_doc.specs.Tree.{Chars, Content, Element, End}
use Rattle.faithful_examples.proofs.OneTopic.{given, map_body, map_lines, map_tree, topic_body, topic_lines, topic_tree}
use Rattle.faithful_examples.proofs.Reading.{document_by}
use Rattle.faithful_examples.proofs.Shown.{lines}

abbrev pub renamed_lines : List String
renamed_lines = "(topic" ∷ "Aclass - topic/topic " ∷ "Aid t" ∷ "(title" ∷ "Aclass - topic/title " ∷ "-Hallo" ∷ ")title"
    ∷ "(body" ∷ "Aclass - topic/body " ∷ "(p" ∷ "Aclass - topic/p " ∷ "-A & B" ∷ ")p" ∷ ")body" ∷ ")topic" ∷ []

abbrev pub renamed_body : List ℕ
renamed_body = lines renamed_lines

abbrev pub renamed_tree : Content
renamed_tree = Element (codes "topic") (given "class" "- topic/topic " ∷ given "id" "t" ∷ []) 0 1
    (Element (codes "title") (given "class" "- topic/title " ∷ []) 0 4 (Chars (codes "Hallo") 0 0 End)
    (Element (codes "body") (given "class" "- topic/body " ∷ []) 0 8
    (Element (codes "p") (given "class" "- topic/p " ∷ []) 0 10 (Chars (codes "A & B") 0 0 End) End) End)) End

pub map_reads : document_of map_body ≡ Ok map_tree
map_reads = document_by map_lines map_tree refl (omega arith) refl

pub topic_reads : document_of topic_body ≡ Ok topic_tree
topic_reads = document_by topic_lines topic_tree refl (omega arith) refl

pub renamed_reads : document_of renamed_body ≡ Ok renamed_tree
renamed_reads = document_by renamed_lines renamed_tree refl (omega arith) refl
