-- Documents in a short form, for examples: elements by their names, with the classes that these have, and with the
-- lines at which their starts stand when a document is written line by line. And what is seen of a map's plan.
use Prim.Native.String.{String}
use Rattle.std.specs.Prelude.{◌+◌, ℕ, List, [], ◌∷◌, ◌++◌, Some, None, Result, Ok, Err, length, map, codes, bytes_eq, if◌then◌else◌}
use Rattle.std.specs.Option.{option_map_or}
use Rattle.dita_doc.specs.ClassValue.{value_of}
use Rattle.dita_doc.specs.Tree.{Content, End, Chars, Element}
use Rattle.dita_doc.specs.declared.content.KeyAnswer.{KeyAnswer}
use Rattle.dita_doc.specs.declared.doc.Attribute.{Attribute}
use Rattle.dita_doc.specs.declared.fault.Fault.{Fault}
use Rattle.dita_doc.specs.declared.plan.PagePlan.{PagePlan}
use Rattle.dita_doc.specs.declared.plan.Plan.{Plan}
use Rattle.dita_doc.specs.declared.plan.PlanKind.{PlanKind}
use Rattle.dita_doc.specs.declared.plan.PlanNode.{PlanNode}
use Rattle.dita_doc.specs.declared.plan.PlanStop.{PlanStop}
use Rattle.fault_report.specs.FaultLine.{fault_line}
use Rattle.fault_report.specs.Report.{report_of}
use Rattle.map_spec.specs.Keys.{key_answer}
use Rattle.map_spec.specs.PlanOf.{limits, plan_of}
use Rattle.reader_spec.specs.World.{World}

abbrev pub texts : List String → List (List ℕ)
texts strings = map codes strings

-- Elements

abbrev pub given : String → String → Attribute
given name value = record { name = codes name; value = codes value }

abbrev pub href : String → Attribute
href value = given "href" value

abbrev beside : Content → Content → Content
beside End more = more
beside (Chars text origin line rest) more = Chars text origin line (beside rest more)
beside (Element name attributes origin line inside rest) more =
    Element name attributes origin line inside (beside rest more)

-- nodes side by side
abbrev all : List Content → Content
all [] = End
all (content ∷ others) = beside content (all others)

abbrev pub text : String → Content
text words = Chars (codes words) 0 0 End

-- an element without a class
abbrev pub plain : String → List Attribute → List Content → Content
plain name attributes inside = Element (codes name) attributes 0 0 (all inside) End

abbrev pub classed : String → List ℕ → List Attribute → List Content → Content
classed name class attributes inside =
    plain name (record { name = codes "class"; value = class } ∷ attributes) inside

-- an element of a base type of maps or of topics
abbrev pub of_map : String → List Attribute → List Content → Content
of_map name attributes inside = classed name (codes "- map/" ++ codes name ++ codes " ") attributes inside

abbrev pub of_topic : String → List Attribute → List Content → Content
of_topic name attributes inside = classed name (codes "- topic/" ++ codes name ++ codes " ") attributes inside

abbrev pub topicref : List Attribute → List Content → Content
topicref attributes inside = of_map "topicref" attributes inside

abbrev pub ref : String → Content
ref value = topicref (href value ∷ []) []

abbrev pub submap : String → Content
submap value = topicref (given "format" "ditamap" ∷ href value ∷ []) []

abbrev pub table_of : List Content → Content
table_of refs = of_map "reltable" [] (of_map "relrow" [] (of_map "relcell" [] refs ∷ []) ∷ [])

-- metadata with this keyword
abbrev pub keyword : String → Content
keyword words = of_map "topicmeta" [] (of_topic "keyword" [] (text words ∷ []) ∷ [])

-- a definition of a key with this keyword
abbrev pub key : String → String → Content
key name words = topicref (given "keys" name ∷ []) (keyword words ∷ [])

abbrev pub ditavalref : List Attribute → List Content → Content
ditavalref attributes inside =
    classed "ditavalref" (codes "+ map/topicref ditavalref-d/ditavalref ") attributes inside

abbrev pub ditavalmeta : List Content → Content
ditavalmeta inside = classed "ditavalmeta" (codes "+ map/topicmeta ditavalref-d/ditavalmeta ") [] inside

abbrev pub dvr : String → String → Content
dvr name words = classed name (codes "+ topic/data ditavalref-d/" ++ codes name ++ codes " ") [] (text words ∷ [])

-- Lines

abbrev height : Content → ℕ
height End = 0
height (Chars text origin line rest) = 1 + height rest
height (Element name attributes origin line inside rest) = 2 + length attributes + height inside + height rest

-- the first of these nodes starts at this line
abbrev lined : ℕ → Content → Content
lined at End = End
lined at (Chars text origin line rest) = Chars text origin 0 (lined (at + 1) rest)
lined at (Element name attributes origin line inside rest) =
    let below = at + 1 + length attributes in
    Element name attributes origin at (lined below inside) (lined (below + height inside + 1) rest)

-- Documents

abbrev pub Document : Type 0
Document = List ℕ × Content

abbrev pub doc : String → Content → Document
doc name content = (codes name, lined 1 content)

abbrev pub map_with : String → List Attribute → List Content → Document
map_with name attributes inside = doc name (of_map "map" attributes inside)

abbrev pub map_doc : String → List Content → Document
map_doc name inside = map_with name [] inside

abbrev pub m : List Content → Document
m inside = map_doc "m.ditamap" inside

-- a topic without content, by its document's name and its id
abbrev pub topic : String → String → Document
topic name id = doc name (of_topic "topic" (given "id" id ∷ [])
    (of_topic "title" [] (text "H" ∷ []) ∷ of_topic "body" [] [] ∷ []))

abbrev pub ditaval : String → List Content → Document
ditaval name props = doc name (plain "val" [] props)

abbrev pub prop : String → String → String → Content
prop action att val = plain "prop" (given "action" action ∷ given "att" att ∷ given "val" val ∷ []) []

abbrev pub these : List Document → World
these [] name = None
these (document ∷ others) name = if bytes_eq document.0 name then Some document.1 else these others name

-- The plan of `m.ditamap`

abbrev pub Planned : Type 0
Planned = Result Plan PlanStop

abbrev pub planned : World → Planned
planned world = plan_of limits world (codes "m.ditamap") None

abbrev pub planned_by : String → World → Planned
planned_by val world = plan_of limits world (codes "m.ditamap") (Some (codes val))

-- with room for so many nodes
abbrev pub planned_in : ℕ → World → Planned
planned_in nodes world = plan_of (record limits { nodes = nodes }) world (codes "m.ditamap") None

abbrev pub Seen : Type 0 → Type 0
Seen X = Result X PlanStop

abbrev pub view : {X : Type 0} → (Plan → X) → Planned → Seen X
view see (Ok plan) = Ok (see plan)
view see (Err stop) = Err stop

abbrev pub pages : Planned → Seen (List (List ℕ))
pages made = view (λ plan. map (λ (page : PagePlan). page.name) plan.pages) made

-- each node's kind, line and parent
abbrev pub Outline : Type 0
Outline = List (PlanKind × ℕ × ℕ)

abbrev pub outline : Planned → Seen Outline
outline made = view (λ plan. map (λ (node : PlanNode). (node.kind, node.line, node.parent)) plan.nodes) made

abbrev pub node_count : Planned → Seen ℕ
node_count made = view (λ plan. length plan.nodes) made

-- the cascaded values of an attribute, node by node; nothing where there are none
abbrev pub values : String → Planned → Seen (List (List ℕ))
values name made = view (λ plan. map (λ (node : PlanNode).
    option_map_or (λ value. value) (value_of (codes name) node.cascaded) []) plan.nodes) made

-- what a key gives in a scope
abbrev pub answer : ℕ → String → World → Planned → Seen KeyAnswer
answer scope name world made = view (λ plan. key_answer world plan.nodes scope (codes name)) made

abbrev pub label : ℕ → String → World → Planned → Seen (List ℕ)
label scope name world made = view (λ plan. (key_answer world plan.nodes scope (codes name)).label) made

-- The lines of a report

abbrev pub report : List Fault → List (List ℕ)
report faults = map fault_line (report_of faults)

abbrev pub faults : Planned → Seen (List (List ℕ))
faults made = view (λ plan. report plan.faults) made
