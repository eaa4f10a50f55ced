-- A map with two topics, of which one gets one paragraph more and then the other another title: what is stored, what a
-- desk replies, and what the language that is published builds of it.
use Rattle.std.specs.Fmt.{digits}
use Rattle.std.specs.Prelude.{◌≡◌, ℕ, List, [], ◌∷◌, None, codes, map}
use Rattle.std.specs.List.{flat_map}
use Rattle.std.proofs.Common.{refl, ap, ◌∙◌}
use Rattle.build_spec.specs.Built.{BuildOutcome, Done}
use Rattle.conref_spec.specs.Content.{followed_from, resolved_from}
use Rattle.desk_language.specs.Language.{bytes_of_parts}
use Rattle.dita_doc.specs.Desk.{State, IsStored, next, reply}
use Rattle.dita_doc.specs.Lines.{line}
use Rattle.dita_doc.specs.Request.{Put, Request, Single, Build}
use Rattle.dita_doc.specs.Tree.{Content, nodes_of}
use Rattle.html_spec.specs.Blocks.{body_html}
use Rattle.html_spec.specs.Contents.{contents, items_from}
use Rattle.map_spec.specs.Included.{map_included}
use Rattle.map_spec.specs.PlanOf.{plan_of}
use Rattle.map_spec.specs.Pushes.{all_pushes}
use Rattle.part_spec.specs.Parts.{clean_build, page_part}
use Rattle.script_text.specs.Script.{Step}
use Rattle.run_spec.specs.Language.{dita}
use Rattle.faithful_examples.proofs.OneTopic.{in_m}
use Rattle.faithful_examples.proofs.Reading.{replied_by, stored_by}
use Rattle.faithful_examples.proofs.TwoRead.{a_body, a_reads, a_tree, b_body, b_reads, b_tree, in_a, in_b, longer_body, longer_reads, longer_tree, map_body, map_reads, map_tree, other_body, other_reads, other_tree}

-- What is stored

abbrev the_map : State
the_map = record { name = in_m; nodes = nodes_of map_tree 0; bytes = map_body; version = 1 } ∷ []

abbrev stored_with : List ℕ → Content → ℕ → State → State
stored_with body tree version rest =
    record { name = in_a; nodes = nodes_of tree 0; bytes = body; version = version } ∷ rest

abbrev second_with : List ℕ → Content → ℕ → State
second_with body tree version =
    record { name = in_b; nodes = nodes_of tree 0; bytes = body; version = version } ∷ the_map

abbrev pub first_state : State
first_state = stored_with a_body a_tree 2 (second_with b_body b_tree 3)

abbrev pub second_state : State
second_state = stored_with longer_body longer_tree 5 (second_with b_body b_tree 3)

abbrev third_state : State
third_state = stored_with longer_body longer_tree 5 (second_with other_body other_tree 7)

abbrev puts : List ℕ → List ℕ → Request
puts name body = Single (Put name body)

abbrev asks : Request → Step
asks request = record { session = 1; request = request }

abbrev pub short_steps : List Step
short_steps = asks (puts in_m map_body) ∷ asks (puts in_a a_body) ∷ asks (puts in_b b_body) ∷ asks (Build in_m None)
    ∷ asks (puts in_a longer_body) ∷ asks (Build in_m None) ∷ []

abbrev pub steps : List Step
steps = asks (puts in_m map_body) ∷ asks (puts in_a a_body) ∷ asks (puts in_b b_body) ∷ asks (Build in_m None)
    ∷ asks (puts in_a longer_body) ∷ asks (Build in_m None) ∷ asks (puts in_b other_body) ∷ asks (Build in_m None) ∷ []

-- as the walk has it
abbrev with_map : State
with_map = next [] 0 (puts in_m map_body)

abbrev with_a : State
with_a = next with_map 1 (puts in_a a_body)

abbrev pub at_first : State
at_first = next with_a 2 (puts in_b b_body)

abbrev pub at_second : State
at_second = next at_first 4 (puts in_a longer_body)

abbrev pub at_third : State
at_third = next at_second 6 (puts in_b other_body)

map_stored : with_map ≡ the_map
map_stored = stored_by [] 0 in_m map_body map_tree map_reads refl

a_stored : next the_map 1 (puts in_a a_body) ≡ stored_with a_body a_tree 2 the_map
a_stored = stored_by the_map 1 in_a a_body a_tree a_reads refl

b_stored : next (stored_with a_body a_tree 2 the_map) 2 (puts in_b b_body) ≡ first_state
b_stored = stored_by (stored_with a_body a_tree 2 the_map) 2 in_b b_body b_tree b_reads refl

longer_stored : next first_state 4 (puts in_a longer_body) ≡ second_state
longer_stored = stored_by first_state 4 in_a longer_body longer_tree longer_reads refl

other_stored : next second_state 6 (puts in_b other_body) ≡ third_state
other_stored = stored_by second_state 6 in_b other_body other_tree other_reads refl

a_is : with_a ≡ stored_with a_body a_tree 2 the_map
a_is = ap (λ state. next state 1 (puts in_a a_body)) map_stored ∙ a_stored

pub first_is : at_first ≡ first_state
first_is = ap (λ state. next state 2 (puts in_b b_body)) a_is ∙ b_stored

pub second_is : at_second ≡ second_state
second_is = ap (λ state. next state 4 (puts in_a longer_body)) first_is ∙ longer_stored

pub third_is : at_third ≡ third_state
third_is = ap (λ state. next state 6 (puts in_b other_body)) second_is ∙ other_stored

pub map_reply : reply [] 0 (puts in_m map_body) ≡ IsStored 1
map_reply = replied_by [] 0 in_m map_body map_tree map_reads refl

a_told : reply the_map 1 (puts in_a a_body) ≡ IsStored 2
a_told = replied_by the_map 1 in_a a_body a_tree a_reads refl

b_told : reply (stored_with a_body a_tree 2 the_map) 2 (puts in_b b_body) ≡ IsStored 3
b_told = replied_by (stored_with a_body a_tree 2 the_map) 2 in_b b_body b_tree b_reads refl

longer_told : reply first_state 4 (puts in_a longer_body) ≡ IsStored 5
longer_told = replied_by first_state 4 in_a longer_body longer_tree longer_reads refl

other_told : reply second_state 6 (puts in_b other_body) ≡ IsStored 7
other_told = replied_by second_state 6 in_b other_body other_tree other_reads refl

pub a_reply : reply with_map 1 (puts in_a a_body) ≡ IsStored 2
a_reply = ap (λ state. reply state 1 (puts in_a a_body)) map_stored ∙ a_told

pub b_reply : reply with_a 2 (puts in_b b_body) ≡ IsStored 3
b_reply = ap (λ state. reply state 2 (puts in_b b_body)) a_is ∙ b_told

pub longer_reply : reply at_first 4 (puts in_a longer_body) ≡ IsStored 5
longer_reply = ap (λ state. reply state 4 (puts in_a longer_body)) first_is ∙ longer_told

pub other_reply : reply at_second 6 (puts in_b other_body) ≡ IsStored 7
other_reply = ap (λ state. reply state 6 (puts in_b other_body)) second_is ∙ other_told

-- What the builds give

abbrev pub a_page : List (List ℕ)
a_page = map codes ("<!DOCTYPE html>" ∷ "<html><head><meta charset=\"utf-8\"><title>A</title></head>" ∷ "<body>"
    ∷ "<article id=\"a\"><h1>A</h1><div class=\"body\"><p>1</p></div></article>" ∷ "</body></html>" ∷ [])

abbrev pub longer_page : List (List ℕ)
longer_page = map codes ("<!DOCTYPE html>" ∷ "<html><head><meta charset=\"utf-8\"><title>A</title></head>" ∷ "<body>"
    ∷ "<article id=\"a\"><h1>A</h1><div class=\"body\"><p>1</p><p>2</p></div></article>" ∷ "</body></html>" ∷ [])

abbrev pub b_page : List (List ℕ)
b_page = map codes ("<!DOCTYPE html>" ∷ "<html><head><meta charset=\"utf-8\"><title>B</title></head>" ∷ "<body>"
    ∷ "<article id=\"b\"><h1>B</h1></article>" ∷ "</body></html>" ∷ [])

abbrev pub other_page : List (List ℕ)
other_page = map codes ("<!DOCTYPE html>" ∷ "<html><head><meta charset=\"utf-8\"><title>C</title></head>" ∷ "<body>"
    ∷ "<article id=\"b\"><h1>C</h1></article>" ∷ "</body></html>" ∷ [])

abbrev pub contents_page : List (List ℕ)
contents_page = map codes ("<!DOCTYPE html>" ∷ "<html><head><meta charset=\"utf-8\"><title>Contents</title></head>" ∷ "<body>"
    ∷ "<nav class=\"toc\"><h1>Contents</h1><ul><li><a href=\"a.html\">A</a></li><li><a href=\"b.html\">B</a></li></ul></nav>" ∷ "</body></html>" ∷ [])

abbrev pub other_contents : List (List ℕ)
other_contents = map codes ("<!DOCTYPE html>" ∷ "<html><head><meta charset=\"utf-8\"><title>Contents</title></head>" ∷ "<body>"
    ∷ "<nav class=\"toc\"><h1>Contents</h1><ul><li><a href=\"a.html\">A</a></li><li><a href=\"b.html\">C</a></li></ul></nav>" ∷ "</body></html>" ∷ [])

abbrev pub build_of : List (List ℕ) → List (List ℕ) → List (List ℕ) → BuildOutcome
build_of first second last = Done ((codes "a.html", flat_map line first) ∷ (codes "b.html", flat_map line second)
    ∷ (codes "index.html", flat_map line last) ∷ []) []

first_build : dita.clean first_state in_m None ≡ build_of a_page b_page contents_page
unfolding clean_build plan_of map_included page_part all_pushes resolved_from followed_from body_html digits contents
    items_from
first_build = refl

pub first_clean : dita.clean at_first in_m None ≡ build_of a_page b_page contents_page
first_clean = ap (λ state. dita.clean state in_m None) first_is ∙ first_build

second_build : dita.clean second_state in_m None ≡ build_of longer_page b_page contents_page
unfolding clean_build plan_of map_included page_part all_pushes resolved_from followed_from body_html digits contents
    items_from
second_build = refl

pub second_clean : dita.clean at_second in_m None ≡ build_of longer_page b_page contents_page
second_clean = ap (λ state. dita.clean state in_m None) second_is ∙ second_build

third_build : dita.clean third_state in_m None ≡ build_of longer_page other_page other_contents
unfolding clean_build plan_of map_included page_part all_pushes resolved_from followed_from body_html digits contents
    items_from
third_build = refl

pub third_clean : dita.clean at_third in_m None ≡ build_of longer_page other_page other_contents
third_clean = ap (λ state. dita.clean state in_m None) third_is ∙ third_build

first_bytes : bytes_of_parts dita first_state in_m None ≡ 1440 ∷ 325 ∷ 293 ∷ 375 ∷ []
unfolding plan_of map_included page_part all_pushes resolved_from followed_from body_html digits contents items_from
first_bytes = refl

pub first_parts : bytes_of_parts dita at_first in_m None ≡ 1440 ∷ 325 ∷ 293 ∷ 375 ∷ []
first_parts = ap (λ state. bytes_of_parts dita state in_m None) first_is ∙ first_bytes

second_bytes : bytes_of_parts dita second_state in_m None ≡ 1440 ∷ 333 ∷ 293 ∷ 375 ∷ []
unfolding plan_of map_included page_part all_pushes resolved_from followed_from body_html digits contents items_from
second_bytes = refl

pub second_parts : bytes_of_parts dita at_second in_m None ≡ 1440 ∷ 333 ∷ 293 ∷ 375 ∷ []
second_parts = ap (λ state. bytes_of_parts dita state in_m None) second_is ∙ second_bytes

third_bytes : bytes_of_parts dita third_state in_m None ≡ 1440 ∷ 333 ∷ 293 ∷ 375 ∷ []
unfolding plan_of map_included page_part all_pushes resolved_from followed_from body_html digits contents items_from
third_bytes = refl

pub third_parts : bytes_of_parts dita at_third in_m None ≡ 1440 ∷ 333 ∷ 293 ∷ 375 ∷ []
third_parts = ap (λ state. bytes_of_parts dita state in_m None) third_is ∙ third_bytes
