-- The canonical text of a tree (own): one line for each opening, attribute (in order), text node and closing. In values
-- and texts an LF is written `\n`, a tab `\t` and a backslash `\\`. The line of an attribute with the empty value ends
-- with its space.
use Rattle.std.specs.Prelude.{◌≡◌, ℕ, List, [], ◌∷◌, ◌++◌}
use Rattle.dita_doc.specs.declared.doc.Attribute.{Attribute}
use Rattle.dita_doc.specs.Bytes.{line_feed, space, hyphen, open_parenthesis, close_parenthesis, capital_a}
use Rattle.dita_doc.specs.PyxEscapes.{escaped}
use Rattle.dita_doc.specs.Tree.{Content, End, Chars, Element}

-- the line that begins with this byte, with its end
abbrev pub line_with : ℕ → List ℕ → List ℕ
line_with first rest = first ∷ (rest ++ line_feed ∷ [])

abbrev pub text_line : List ℕ → List ℕ
text_line text = line_with hyphen (escaped text)

abbrev pub attribute_line : Attribute → List ℕ
attribute_line attribute = line_with capital_a (attribute.name ++ space ∷ escaped attribute.value)

abbrev pub attribute_lines : List Attribute → List ℕ
attribute_lines [] = []
attribute_lines (attribute ∷ attributes) = attribute_line attribute ++ attribute_lines attributes

abbrev pub text_of : Content → List ℕ
text_of End = []
text_of (Chars text origin line rest) = text_line text ++ text_of rest
text_of (Element name attributes origin line inside rest) =
    let closed = line_with close_parenthesis name ++ text_of rest in
    line_with open_parenthesis name ++ (attribute_lines attributes ++ (text_of inside ++ closed))

-- two trees that differ at most in the lines that their nodes were written in
abbrev pub SameApartFromLines : Content → Content → Type 0
SameApartFromLines End End = Unit {0}
SameApartFromLines (Chars text origin line rest) (Chars text_too origin_too line_too rest_too) =
    (text ≡ text_too) × (origin ≡ origin_too) × SameApartFromLines rest rest_too
SameApartFromLines (Element name attributes origin line inside rest)
    (Element name_too attributes_too origin_too line_too inside_too rest_too) =
    (name ≡ name_too) × (attributes ≡ attributes_too) × (origin ≡ origin_too)
    × SameApartFromLines inside inside_too × SameApartFromLines rest rest_too
SameApartFromLines tree other = ⊥
