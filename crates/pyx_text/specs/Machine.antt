-- The nodes and the open places that some events make, the last event first, and what a machine holds after them.
use Rattle.std.specs.Prelude.{◌≡◌, ◌+◌, ◌-◌, ℕ, zero, suc, Bool, List, [], ◌∷◌, ◌++◌, Option, Some, None, Result, Ok, Err, length, take, is_some, slice_index, bytes_eq}
use Rattle.std.specs.List.{before_first, after_first, list_any}
use Rattle.std.specs.Ordering.{nat_cmp}
use Rattle.std.specs.Cmp.Lexicographic.{slice_cmp}
use Rattle.std.specs.BTreeSet.{BTreeSet, contains_by}
use Rattle.dita_doc.specs.declared.doc.Attribute.{Attribute}
use Rattle.dita_doc.specs.declared.doc.Node.{Node}
use Rattle.dita_doc.specs.declared.stop.Stop.{Stop}
use Rattle.dita_doc.specs.declared.stop.Stop.TheVariants.{Fault, NoMemory}
use Rattle.dita_doc.specs.declared.fault.PyxCode.{PyxCode}
use Rattle.dita_doc.specs.Tree.{element_node, chars_node}
use Rattle.dita_doc.specs.PyxLine.{Line, Gives, with_name}
use Rattle.dita_doc.specs.PyxEscapes.{unescaped}
use Rattle.dita_doc.specs.Bytes.{is_space}
use Rattle.dita_doc.specs.PyxEvent.{Event, Open, Give, Text, Close, given_names, has_root}
use Rattle.pyx_text.specs.declared.machine.PyxMachine.{PyxMachine}

-- what the lines so far have said, the last of it first
abbrev pub Events : Type 0
Events = List Event

-- what an `A` line of these bytes says
abbrev pub attribute_said : List ℕ → Line
attribute_said bytes =
    let name = before_first is_space bytes in
    with_name name (Gives name (unescaped (after_first is_space bytes)))

-- the nodes with a text put behind them, unless it is empty
abbrev pub with_text : List ℕ → List Node → List Node
with_text [] nodes = nodes
with_text (b ∷ text) nodes = nodes ++ chars_node (b ∷ text) 0 0 (length nodes + 1) ∷ []

-- the nodes with an element put behind them, whose end is not known yet
abbrev pub with_element : List ℕ → ℕ → List Node → List Node
with_element name line nodes = nodes ++ element_node name [] 0 line 0 ∷ []

-- the nodes with one of them changed
abbrev pub changed_at : ℕ → (Node → Node) → List Node → List Node
changed_at place change [] = []
changed_at zero change (node ∷ nodes) = change node ∷ nodes
changed_at (suc place) change (node ∷ nodes) = node ∷ changed_at place change nodes

abbrev pub giving : Attribute → Node → Node
giving attribute node = record node { attributes = node.attributes ++ attribute ∷ [] }

abbrev pub ending : ℕ → Node → Node
ending end node = record node { end = end }

-- the nodes with an attribute given to the last of them
abbrev pub with_attribute : Attribute → List Node → List Node
with_attribute attribute nodes = changed_at (length nodes - 1) (giving attribute) nodes

-- the nodes in which the subtree of the one at this place is all that stands behind it
abbrev pub with_end : ℕ → List Node → List Node
with_end place nodes = changed_at place (ending (length nodes)) nodes

-- whether a name is one of a set's
abbrev pub has_name : List ℕ → BTreeSet (List ℕ) → Bool
has_name name set = contains_by (λ k. slice_cmp nat_cmp name k) set

-- if an attribute may come, a set has the names that the element has so far
abbrev pub HasGiven : BTreeSet (List ℕ) → Option (List (List ℕ)) → Type 0
HasGiven set None = Unit {0}
HasGiven set (Some names) = (name : List ℕ) → has_name name set ≡ list_any (bytes_eq name) names

-- the last of the open places, and those before it
abbrev pub innermost : List ℕ → ℕ
innermost places = slice_index places (length places - 1)

abbrev pub outer : List ℕ → List ℕ
outer places = take (length places - 1) places

-- what some lines have made: nodes, and the places of the elements that are open, the innermost last
pub record MadeEvents : Type 0 where
  pub nodes : List Node
  pub places : List ℕ

abbrev pub made_by : List Event → MadeEvents
made_by [] = record { nodes = []; places = [] }
made_by (Open name line ∷ before) =
    let made = made_by before in
    record { nodes = with_element name line made.nodes; places = made.places ++ length made.nodes ∷ [] }
made_by (Give name value ∷ before) =
    let made = made_by before in
    record { nodes = with_attribute (record { name = name; value = value }) made.nodes; places = made.places }
made_by (Text text ∷ before) =
    let made = made_by before in
    record { nodes = with_text text made.nodes; places = made.places }
made_by (Close name ∷ before) =
    let made = made_by before in
    record { nodes = with_end (innermost made.places) made.nodes; places = outer made.places }

-- the text at hand, and the events before it
abbrev pub text_at : List Event → List ℕ
text_at [] = []
text_at (Open name line ∷ before) = []
text_at (Give name value ∷ before) = []
text_at (Text text ∷ before) = text
text_at (Close name ∷ before) = []

abbrev pub settled : List Event → List Event
settled [] = []
settled (Open name line ∷ before) = Open name line ∷ before
settled (Give name value ∷ before) = Give name value ∷ before
settled (Text text ∷ before) = before
settled (Close name ∷ before) = Close name ∷ before

-- what a machine holds after these events
pub record HasRead (machine : PyxMachine) (before : List Event) : Type 0 where
  pub nodes : machine.nodes.items ≡ (made_by (settled before)).nodes
  pub places : machine.places.items ≡ (made_by (settled before)).places
  pub text : machine.text ≡ text_at before
  pub fresh : machine.fresh ≡ is_some (given_names before)
  pub given : HasGiven machine.given (given_names before)
  pub rooted : machine.rooted ≡ has_root before

-- a machine that has read some lines
abbrev pub IsReading : PyxMachine → Type 0
IsReading machine = (before : List Event) × HasRead machine before

-- a step is the first fault, if there is one, and else leads to what comes next
abbrev pub StepsTo : Result Unit (Stop PyxCode) → Option PyxCode → Type 0 → Type 0
StepsTo (Ok x) fault next = (fault ≡ None) × next
StepsTo (Err (Fault code)) fault next = fault ≡ Some code
StepsTo (Err NoMemory) fault next = Unit {0}
