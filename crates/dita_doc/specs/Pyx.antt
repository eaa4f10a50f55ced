-- PYX texts: lines of bytes, their first fault, and the tree that a text stands for.
use Rattle.std.specs.Prelude.{◌≡◌, ◌+◌, ◌==◌, ◌&&◌, ℕ, zero, suc, Bool, true, false, List, [], ◌∷◌, ◌++◌, Option, Some, None, Result, Ok, Err, if◌then◌else◌}
use Rattle.dita_doc.specs.declared.doc.Attribute.{Attribute}
use Rattle.dita_doc.specs.declared.doc.Node.{Node}
use Rattle.dita_doc.specs.declared.fault.PyxCode.{PyxCode}
use Rattle.dita_doc.specs.declared.fault.PyxCode.TheVariants as codes
use Rattle.dita_doc.specs.declared.fault.PyxFault.{PyxFault}
use Rattle.dita_doc.specs.Bytes.{line_feed, carriage_return}
use Rattle.dita_doc.specs.Tree.{Content, End, Chars, Element, nodes_of}
use Rattle.dita_doc.specs.PyxLine.{Line, Breaks, line_of}
use Rattle.dita_doc.specs.PyxEvent.{Event, Open, Give, Text, Close, add_text, open_names, has_root, fault_of, after}

abbrev pub text_limit : ℕ
text_limit = 4194304

abbrev pub is_empty_line : List ℕ → Bool
is_empty_line [] = true
is_empty_line (b ∷ bytes) = false

-- What the lines of these bytes say, if this much of a line stands before them and so many bytes of the text are
-- still within the limit. A CR is dropped wherever it stands, and a last rest that is not empty is a line too (own).
abbrev pub lines_from : ℕ → List ℕ → List ℕ → List Line
lines_from left line [] = if is_empty_line line then [] else line_of line ∷ []
lines_from zero line (b ∷ bytes) = if (b == carriage_return) && is_empty_line line then lines_from zero line bytes
    else Breaks codes.TooLong ∷ []
lines_from (suc left) line (b ∷ bytes) =
    if b == line_feed then line_of line ∷ lines_from left [] bytes
    else if b == carriage_return then lines_from left line bytes
    else lines_from left (line ++ b ∷ []) bytes

abbrev pub is_none_open : List (List ℕ) → Bool
is_none_open [] = true
is_none_open (name ∷ names) = false

-- a fault at the last line, which has this number: an element is open, or there is none
abbrev pub ends : ℕ → List Event → Result (List Event) PyxFault
ends number events =
    if is_none_open (open_names events)
    then (if has_root events then Ok events else Err (record { code = codes.NoRoot; line = number }))
    else Err (record { code = codes.Unclosed; line = number })

abbrev pub goes_on : Option PyxCode → ℕ → Result (List Event) PyxFault → Result (List Event) PyxFault
goes_on None number rest = rest
goes_on (Some code) number rest = Err (record { code = code; line = number })

-- the events of lines after these events and so many lines, or the first faulty line with its first fault
abbrev pub reads : ℕ → List Event → List Line → Result (List Event) PyxFault
reads number before [] = ends number before
reads number before (line ∷ lines) = goes_on (fault_of before line) (number + 1)
    (reads (number + 1) (after (number + 1) before line) lines)

abbrev pub read_from : ℕ → List ℕ → ℕ → List Event → List ℕ → Result (List Event) PyxFault
read_from left line number before bytes = reads number before (lines_from left line bytes)

abbrev pub reading : List ℕ → Result (List Event) PyxFault
reading text = read_from text_limit [] 0 [] text

-- What a tree says, after what was said before: a text, which may be empty, at both ends of each content and between
-- its elements, and each element's opening, attributes, content and closing. `text` is what has been said of the text
-- at hand.
abbrev pub give_all : List Attribute → List Event → List Event
give_all [] before = before
give_all (attribute ∷ attributes) before = give_all attributes (Give attribute.name attribute.value ∷ before)

abbrev pub says : List ℕ → Content → List Event → List Event
says text End before = Text text ∷ before
says text (Chars more origin line rest) before = says (text ++ more) rest before
says text (Element name attributes origin line inside rest) before =
    says [] rest (Close name ∷ says [] inside (give_all attributes (Open name line ∷ Text text ∷ before)))

-- no text is empty, no two stand side by side, and all is written in the one document
abbrev pub begins_with_text : Content → Bool
begins_with_text End = false
begins_with_text (Chars text origin line rest) = true
begins_with_text (Element name attributes origin line inside rest) = false

abbrev pub IsWritten : Content → Type 0
IsWritten End = Unit {0}
IsWritten (Chars text origin line rest) = (is_empty_line text ≡ false) × (begins_with_text rest ≡ false) × (origin ≡ 0)
    × (line ≡ 0) × IsWritten rest
IsWritten (Element name attributes origin line inside rest) = (origin ≡ 0) × IsWritten inside × IsWritten rest

-- one element, and nothing beside it
abbrev pub IsOneElement : Content → Type 0
IsOneElement End = ⊥
IsOneElement (Chars text origin line rest) = ⊥
IsOneElement (Element name attributes origin line inside rest) = rest ≡ End

-- A text stands for a tree if none of its lines is faulty, and its lines say what the tree says.
pub record StandsFor (text : List ℕ) (tree : Content) : Type 0 where
  pub events : List Event
  pub read : reading text ≡ Ok events
  pub same : says [] tree [] ≡ add_text [] events
  pub written : IsWritten tree
  pub one : IsOneElement tree

-- a text before a content
abbrev pub text_then : List ℕ → Content → Content
text_then [] rest = rest
text_then (b ∷ text) rest = Chars (b ∷ text) 0 0 rest

-- The tree of some events, built from the last of them on: `around` has what follows at the place, and then what
-- follows each element that is open there; `attributes` are those that the element at hand is given.
abbrev pub built : List Event → List Attribute → List Content → Content
built [] attributes [] = End
built [] attributes (content ∷ around) = content
built (Text text ∷ before) attributes [] = End
built (Text text ∷ before) attributes (content ∷ around) = built before attributes (text_then text content ∷ around)
built (Close name ∷ before) attributes around = built before [] (End ∷ around)
built (Give name value ∷ before) attributes around =
    built before (record { name = name; value = value } ∷ attributes) around
built (Open name line ∷ before) attributes [] = End
built (Open name line ∷ before) attributes (inside ∷ []) = End
built (Open name line ∷ before) attributes (inside ∷ rest ∷ around) =
    built before [] (Element name attributes 0 line inside rest ∷ around)

abbrev pub tree_built : Result (List Event) PyxFault → Result Content PyxFault
tree_built (Ok events) = Ok (built events [] (End ∷ []))
tree_built (Err fault) = Err fault

-- the tree that a text stands for, or its first fault
unfoldable pub document_of : List ℕ → Result Content PyxFault
document_of text = tree_built (reading text)

-- the nodes of that tree, or the fault
abbrev pub nodes_or_fault : Result Content PyxFault → Result (List Node) PyxFault
nodes_or_fault (Ok tree) = Ok (nodes_of tree 0)
nodes_or_fault (Err fault) = Err fault
