-- Topics with a body in a short form, and what is seen of the pages that a build makes of them.
use Prim.Native.String.{String}
use Rattle.std.specs.Prelude.{ℕ, List, [], ◌∷◌, ◌++◌, Some, None, Ok, Err, slice_get, unwrap_or, codes}
use Rattle.std.specs.List.{flat_map}
use Rattle.dita_doc.specs.Lines.{line, lines_of}
use Rattle.dita_doc.specs.Tree.{Content}
use Rattle.dita_doc.specs.declared.doc.Attribute.{Attribute}
use Rattle.dita_doc.specs.declared.fact.Html.{Html}
use Rattle.part_spec.specs.Parts.{Rooms, contents_part, faults_of, page_part, parts_of, rooms}
use Rattle.reader_spec.specs.World.{World}
use Rattle.language_examples.proofs.Short.{Document, Seen, doc, given, m, of_topic, planned, planned_by, ref, report, text, texts, these, view}

-- Elements

abbrev pub id : String → Attribute
id value = given "id" value

abbrev pub conref : String → Attribute
conref value = given "conref" value

-- an element of a base type of topics without attributes
abbrev pub bare : String → List Content → Content
bare name inside = of_topic name [] inside

-- an element with a text
abbrev pub with_text : String → List Attribute → String → Content
with_text name attributes words = of_topic name attributes (text words ∷ [])

abbrev pub p : String → Content
p words = with_text "p" [] words

abbrev pub title : String → Content
title words = with_text "title" [] words

-- Topics

-- a topic by its document's name, its id and its title, with this in its body
abbrev pub titled : String → String → String → List Content → Document
titled name topic words inside =
    doc name (of_topic "topic" (id topic ∷ []) (title words ∷ bare "body" inside ∷ []))

abbrev pub topic_of : String → String → List Content → Document
topic_of name topic inside = titled name topic "H" inside

abbrev pub t : List Content → Document
t inside = topic_of "t.dita" "t" inside

-- a map with a reference to `t.dita`, which has this in its body, and further documents
abbrev pub alone_with : List Document → List Content → World
alone_with others inside = these (m (ref "t.dita" ∷ []) ∷ t inside ∷ others)

abbrev pub alone : List Content → World
alone inside = alone_with [] inside

-- Pages

-- the page at an index of the plan of `m.ditamap`
abbrev pub page : ℕ → World → Seen Html
page index world = view (λ plan. page_part rooms world plan None index) (planned world)

-- with so much room
abbrev pub page_in : Rooms → ℕ → World → Seen Html
page_in room index world = view (λ plan. page_part room world plan None index) (planned world)

abbrev pub page_by : String → ℕ → World → Seen Html
page_by val index world = view (λ plan. page_part rooms world plan (Some (codes val)) index) (planned_by val world)

abbrev pub lines : List String → List ℕ
lines strings = flat_map line (texts strings)

abbrev pub see : {X : Type 0} → (Html → X) → Seen Html → Seen X
see look (Ok html) = Ok (look html)
see look (Err stop) = Err stop

abbrev pub bytes_of : Seen Html → Seen (List ℕ)
bytes_of seen = see (λ html. html.bytes) seen

abbrev pub line_at : ℕ → List ℕ → List ℕ
line_at index bytes = unwrap_or (slice_get (lines_of bytes) index) []

-- the line of the body, and the faults in the order of a report
abbrev pub Shown : Type 0
Shown = List ℕ × List (List ℕ)

abbrev pub shown : Seen Html → Seen Shown
shown seen = see (λ html. (line_at 3 html.bytes, report html.faults)) seen

abbrev pub page_faults : Seen Html → Seen (List (List ℕ))
page_faults seen = see (λ html. report html.faults) seen

-- the line behind the body: the links, or the last line
abbrev pub behind : Seen Html → Seen (List ℕ)
behind seen = see (λ html. line_at 4 html.bytes) seen

abbrev pub no_links : Seen (List ℕ)
no_links = Ok (codes "</body></html>")

abbrev pub item : (kind address label : String) → List ℕ
item kind address label = codes "<li class=\"" ++ codes kind ++ codes "\"><a href=\"" ++ codes address ++ codes "\">"
    ++ codes label ++ codes "</a></li>"

abbrev pub nav : List (List ℕ) → Seen (List ℕ)
nav items = Ok (codes "<nav class=\"related\"><ul>" ++ flat_map (λ item. item) items ++ codes "</ul></nav>")

abbrev pub is_shown : List String → List String → Seen Shown
is_shown body faults = Ok (flat_map codes body, texts faults)

-- what a topic with the title `H` shows whose body holds this
abbrev pub in_topic : String → List String → List String → Seen Shown
in_topic topic inside faults = is_shown ("<article id=\"" ∷ topic ∷ "\"><h1>H</h1><div class=\"body\">" ∷ inside
    ++ "</div></article>" ∷ []) faults

abbrev pub in_t : List String → List String → Seen Shown
in_t inside faults = in_topic "t" inside faults

-- The contents page and the whole

abbrev pub contents_of : World → Seen Html
contents_of world = view (contents_part world) (planned world)

-- all faults of a build
abbrev pub build_faults : World → Seen (List (List ℕ))
build_faults world = view (λ plan. report (faults_of plan (parts_of rooms world plan None))) (planned world)
