-- Elements by their types (DITA 1.3, "Specialization in DITA: design, implementation and rules", "The @class attribute
-- rules and syntax"). That an element without a class that can be read is transparent is our own.
use Rattle.std.specs.Prelude.{◌==◌, ◌&&◌, ℕ, Bool, true, false, not, List, [], ◌∷◌, Option, Some, None, Result, Ok, Err, filter, find, length, codes, bytes_eq, if◌then◌else◌}
use Rattle.std.specs.List.{flat_map, list_any}
use Rattle.std.specs.Option.{option_map_or}
use Rattle.dita_doc.specs.ClassValue.{class_of, value_of}
use Rattle.dita_doc.specs.PlainText.{folded}
use Rattle.dita_doc.specs.declared.class.ClassFault.{ClassFault}
use Rattle.dita_doc.specs.declared.class.ClassList.{ClassList}
use Rattle.dita_doc.specs.declared.fault.Fault.{Fault}
use Rattle.dita_doc.specs.declared.fault.FaultCode.{FaultCode}
use Rattle.dita_doc.specs.declared.fault.FaultCode.TheVariants as faults
use Rattle.map_spec.specs.Written.{Element, Whole, Written, End, Chars, Node, characters, elements_below, side_by_side, siblings}

-- Attributes

abbrev pub attribute : List ℕ → Element → Option (List ℕ)
attribute name element = value_of name element.attributes

-- the attribute has this value
abbrev pub is_value : List ℕ → Option (List ℕ) → Bool
is_value value written = option_map_or (bytes_eq value) written false

abbrev pub has_value : List ℕ → List ℕ → Element → Bool
has_value name value element = is_value value (attribute name element)

-- a fault of an element stands where the element was written
abbrev pub fault_at : Element → FaultCode → List ℕ → Fault
fault_at element code detail = record { name = element.doc; line = element.line; code = code; detail = detail }

-- Types

abbrev pub tokens_read : Result ClassList ClassFault → List (List ℕ)
tokens_read (Ok list) = list.tokens
tokens_read (Err fault) = []

abbrev pub tokens_by : Option (List ℕ) → List (List ℕ)
tokens_by None = []
tokens_by (Some value) = tokens_read (class_of value)

-- the tokens of an element's types, none if its class can't be read
abbrev pub tokens_of : Element → List (List ℕ)
tokens_of element = tokens_by (attribute (codes "class") element)

abbrev pub is_a : List ℕ → Element → Bool
is_a token element = list_any (bytes_eq token) (tokens_of element)

abbrev pub has_types : Element → Bool
has_types element = not (length (tokens_of element) == 0)

-- the tokens begin with those of the base
abbrev pub begins_with : List (List ℕ) → List (List ℕ) → Bool
begins_with tokens [] = true
begins_with [] (base ∷ bases) = false
begins_with (token ∷ tokens) (base ∷ bases) = bytes_eq token base && begins_with tokens bases

-- an element of a type, or of one that specializes it; an element without a readable class is neither
abbrev pub is_special : Element → Element → Bool
is_special special base =
    has_types special && has_types base && begins_with (tokens_of special) (tokens_of base)

abbrev pub is_dita : Element → Bool
is_dita element = bytes_eq element.name (codes "dita")

-- what it holds stands in its place
abbrev pub is_transparent : Element → Bool
is_transparent element = not (has_types element) && not (is_dita element)

abbrev pub class_fault : Element → Option (List ℕ) → Fault
class_fault element None = fault_at element faults.NoClass element.name
class_fault element (Some value) = fault_at element faults.BadClass value

-- the fault of a transparent element
abbrev pub class_faults : Element → List Fault
class_faults element =
    if is_transparent element then class_fault element (attribute (codes "class") element) ∷ [] else []

-- Children

-- nodes with the content of the transparent ones among them in their place
abbrev pub without_transparent : Written → Written
without_transparent End = End
without_transparent (Chars text doc rest) = Chars text doc (without_transparent rest)
without_transparent (Node element inside rest) =
    if is_transparent element then side_by_side (without_transparent inside) (without_transparent rest)
    else Node element inside (without_transparent rest)

abbrev pub children : Written → List Whole
children inside = siblings (without_transparent inside)

abbrev pub is_whole : List ℕ → Whole → Bool
is_whole token whole = is_a token whole.0

-- the first child of a type
abbrev pub first_child : List ℕ → Written → Option Whole
first_child token inside = find (is_whole token) (children inside)

-- the first element of a type below any child of another type
abbrev pub first_under : List ℕ → List ℕ → Written → Option Whole
first_under child token inside =
    find (is_whole token) (flat_map (λ (whole : Whole). elements_below whole.1) (filter (is_whole child) (children inside)))

-- Texts

-- the plain text of what an element holds
abbrev pub plain_text : Written → List ℕ
plain_text inside = folded (characters inside)

-- the plain text of an element that may be there, else nothing
abbrev pub text_of : Option Whole → List ℕ
text_of whole = option_map_or (λ (found : Whole). plain_text found.1) whole []
