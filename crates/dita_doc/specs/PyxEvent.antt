-- What the lines of a text have said so far, and what of a next line is wrong. Events are kept with the last first.
use Rattle.std.specs.Prelude.{◌==◌, ◌&&◌, ℕ, Bool, true, false, not, List, [], ◌∷◌, ◌++◌, Option, Some, None, length, drop, nat_le, if◌then◌else◌, bytes_eq}
use Rattle.std.specs.List.{list_any}
use Rattle.dita_doc.specs.PlainText.{is_blank}
use Rattle.dita_doc.specs.PyxLine.{Line, Opens, Gives, Says, Closes, Passes, Breaks}
use Rattle.dita_doc.specs.declared.fault.PyxCode.{PyxCode}
use Rattle.dita_doc.specs.declared.fault.PyxCode.TheVariants as codes

pub data Event : Type 0 where
  Open : (name : List ℕ) (line : ℕ) → Event
  Give : (name value : List ℕ) → Event
  Text : (text : List ℕ) → Event
  Close : (name : List ℕ) → Event

-- neighbouring texts are one
abbrev pub add_text : List ℕ → List Event → List Event
add_text text [] = Text text ∷ []
add_text text (Open name line ∷ before) = Text text ∷ Open name line ∷ before
add_text text (Give name value ∷ before) = Text text ∷ Give name value ∷ before
add_text text (Text first ∷ before) = Text (first ++ text) ∷ before
add_text text (Close name ∷ before) = Text text ∷ Close name ∷ before

-- the names of the elements that are open, the innermost first
abbrev pub open_names : List Event → List (List ℕ)
open_names [] = []
open_names (Open name line ∷ before) = name ∷ open_names before
open_names (Give name value ∷ before) = open_names before
open_names (Text text ∷ before) = open_names before
open_names (Close name ∷ before) = drop 1 (open_names before)

-- the names of the attributes of the element just opened; none if no attribute may stand
abbrev pub one_more : List ℕ → Option (List (List ℕ)) → Option (List (List ℕ))
one_more name None = None
one_more name (Some names) = Some (name ∷ names)

abbrev pub given_names : List Event → Option (List (List ℕ))
given_names [] = None
given_names (Open name line ∷ before) = Some []
given_names (Give name value ∷ before) = one_more name (given_names before)
given_names (Text text ∷ before) = None
given_names (Close name ∷ before) = None

abbrev pub has_root : List Event → Bool
has_root [] = false
has_root (Open name line ∷ before) = true
has_root (Give name value ∷ before) = has_root before
has_root (Text text ∷ before) = has_root before
has_root (Close name ∷ before) = has_root before

abbrev pub is_outside : List Event → Bool
is_outside before = length (open_names before) == 0

abbrev pub read_depth_limit : ℕ
read_depth_limit = 256

-- a second root, or an element deeper than the limit; the root has depth 1
abbrev pub fault_of_open : Bool → List (List ℕ) → Option PyxCode
fault_of_open rooted [] = if rooted then Some codes.SecondRoot else None
fault_of_open rooted (name ∷ names) = if nat_le read_depth_limit
    (length (name ∷ names)) then Some codes.TooDeep else None

-- an attribute where none may stand, or one that the element has already
abbrev pub fault_of_give : List ℕ → Option (List (List ℕ)) → Option PyxCode
fault_of_give name None = Some codes.AttributePlace
fault_of_give name (Some names) = if list_any (bytes_eq name) names then Some codes.AttributeTwice else None

-- a name that is not that of the open element, or none is open
abbrev pub fault_of_close : List ℕ → List (List ℕ) → Option PyxCode
fault_of_close name [] = Some codes.CloseMismatch
fault_of_close name (innermost ∷ names) = if bytes_eq name innermost then None else Some codes.CloseMismatch

-- what is wrong with a line after these events
abbrev pub fault_of : List Event → Line → Option PyxCode
fault_of before (Opens name) = fault_of_open (has_root before) (open_names before)
fault_of before (Gives name value) = fault_of_give name (given_names before)
fault_of before (Says text) = if is_outside before && not (is_blank text) then Some codes.TextOutside else None
fault_of before (Closes name) = fault_of_close name (open_names before)
fault_of before Passes = None
fault_of before (Breaks code) = Some code

-- the events after the line of this number, which is not faulty. Text outside the root is passed over
abbrev pub after : ℕ → List Event → Line → List Event
after number before (Opens name) = Open name number ∷ add_text [] before
after number before (Gives name value) = Give name value ∷ before
after number before (Says text) = if is_outside before then before else add_text text before
after number before (Closes name) = Close name ∷ add_text [] before
after number before Passes = before
after number before (Breaks code) = before
