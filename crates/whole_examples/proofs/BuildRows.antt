-- The definitions of builds, run on small sources: the two pages of a map with one topic byte for byte.
use Prim.Native.String.{String}
use Rattle.std.specs.Fmt.{digits}
use Rattle.std.specs.List.{flat_map}
use Rattle.std.specs.Prelude.{◌≡◌, ℕ, List, [], ◌∷◌, ◌++◌, None, Some, length, map, refl, codes, bytes_eq, if◌then◌else◌}
use Rattle.build_spec.specs.Built.{Done, Stopped}
use Rattle.dita_doc.specs.Lines.{line}
use Rattle.dita_doc.specs.PlainText.{folded}
use Rattle.dita_doc.specs.Tree.{Content, End, Chars, Element}
use Rattle.dita_doc.specs.declared.doc.Attribute.{Attribute}
use Rattle.dita_doc.specs.declared.fault.FaultCode.TheVariants as faults
use Rattle.dita_doc.specs.declared.plan.PlanStop.TheVariants as stops
use Rattle.map_spec.specs.Included.{map_included}
use Rattle.map_spec.specs.PlanOf.{plan_of}
use Rattle.html_spec.specs.Blocks.{body_html}
use Rattle.conref_spec.specs.Content.{followed_from, resolved_from}
use Rattle.html_spec.specs.Contents.{contents, items_from}
use Rattle.map_spec.specs.Pushes.{all_pushes}
use Rattle.part_spec.specs.Parts.{clean_build, page_part}
use Rattle.reader_spec.specs.World.{World}

abbrev lf : List ℕ
lf = 10 ∷ []

abbrev lines : List String → List ℕ
lines strings = flat_map line (map codes strings)

-- a map with one topic
abbrev given : String → String → Attribute
given name value = record { name = codes name; value = codes value }

abbrev map_tree : Content
map_tree = Element (codes "map") (given "class" "- map/map " ∷ []) 0 1
    (Element (codes "topicref") (given "class" "- map/topicref " ∷ given "href" "t.dita" ∷ []) 0 3 End End) End

abbrev topic_tree : Content
topic_tree = Element (codes "topic") (given "class" "- topic/topic " ∷ given "id" "t" ∷ []) 0 1
    (Element (codes "title") (given "class" "- topic/title " ∷ []) 0 4 (Chars (codes "Hello") 0 0 End)
    (Element (codes "body") (given "class" "- topic/body " ∷ []) 0 8
    (Element (codes "p") (given "class" "- topic/p " ∷ []) 0 10 (Chars (codes "A & B") 0 0 End) End) End)) End

abbrev map_alone : World
map_alone name = if bytes_eq name (codes "m.ditamap") then Some map_tree else None

abbrev both : World
both name = if bytes_eq name (codes "t.dita") then Some topic_tree else map_alone name

abbrev topic : List ℕ
topic = lines ("<!DOCTYPE html>" ∷ "<html><head><meta charset=\"utf-8\"><title>Hello</title></head>" ∷ "<body>"
    ∷ "<article id=\"t\"><h1>Hello</h1><div class=\"body\"><p>A &amp; B</p></div></article>" ∷ "</body></html>" ∷ [])

abbrev contents_with : String → List ℕ
contents_with item = lines ("<!DOCTYPE html>" ∷ "<html><head><meta charset=\"utf-8\"><title>Contents</title></head>"
    ∷ "<body>" ∷ [])
    ++ codes "<nav class=\"toc\"><h1>Contents</h1><ul><li>" ++ codes item ++ lines ("</li></ul></nav>"
    ∷ "</body></html>" ∷ [])

abbrev contents_page : List ℕ
contents_page = contents_with "<a href=\"t.html\">Hello</a>"

its_build : clean_build both (codes "m.ditamap") None
    ≡ Done ((codes "t.html", topic) ∷ (codes "index.html", contents_page) ∷ []) []
unfolding clean_build plan_of map_included page_part all_pushes resolved_from followed_from body_html digits contents
    items_from
its_build = refl

its_size : length topic ≡ 181
its_size = refl

size_of_contents : length contents_page ≡ 188
size_of_contents = refl

no_topic : clean_build map_alone (codes "m.ditamap") None
    ≡ Done ((codes "index.html", contents_with "t.dita") ∷ [])
    (record { name = codes "m.ditamap"; line = 3; code = faults.TopicMissing; detail = codes "t.dita" } ∷ [])
unfolding clean_build plan_of map_included page_part all_pushes resolved_from followed_from body_html digits contents
    items_from
no_topic = refl

no_ditaval : clean_build both (codes "m.ditamap") (Some (codes "v.ditaval")) ≡ Stopped stops.NoDitaval
unfolding clean_build plan_of map_included page_part all_pushes resolved_from followed_from body_html digits contents
    items_from
no_ditaval = refl

no_map : clean_build (λ name. None) (codes "m.ditamap") None ≡ Stopped stops.NoMap
unfolding clean_build plan_of
no_map = refl

blanks_are_folded : folded (32 ∷ 97 ∷ 9 ∷ 32 ∷ 98 ∷ 32 ∷ []) ≡ codes "a b"
blanks_are_folded = refl
