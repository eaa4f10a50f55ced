-- Bodies in a short form (own): an element is, line by line, its beginning, its class, its other attributes, what it
-- holds, and its end. What is written here has no character that would need an escape.
use Rattle.std.specs.Prelude.{ℕ, List, [], ◌∷◌, ◌++◌, codes}
use Rattle.std.specs.List.{flat_map}
use Rattle.dita_doc.specs.Lines.{line}

-- an attribute: its name and its value
abbrev pub Given : Type 0
Given = List ℕ × List ℕ

unfoldable pub attribute_text : Given → List ℕ
attribute_text given = line (codes "A" ++ given.0 ++ codes " " ++ given.1)

unfoldable pub text : List ℕ → List ℕ
text words = line (codes "-" ++ words)

-- the lines that an element begins and ends with
unfoldable pub begun : List ℕ → List ℕ
begun name = line (codes "(" ++ name)

unfoldable pub ended : List ℕ → List ℕ
ended name = line (codes ")" ++ name)

-- an element without a class, with these attributes, and with this inside
abbrev pub plain : List ℕ → List Given → List ℕ → List ℕ
plain name attributes inside =
    begun name ++ flat_map attribute_text attributes ++ inside ++ ended name

abbrev pub classed : List ℕ → List ℕ → List Given → List ℕ → List ℕ
classed name class attributes inside = plain name ((codes "class", class) ∷ attributes) inside

-- an element of a base type of maps, and one of a base type of topics
abbrev pub of_map : List ℕ → List Given → List ℕ → List ℕ
of_map name attributes inside = classed name (codes "- map/" ++ name ++ codes " ") attributes inside

abbrev pub of_topic : List ℕ → List Given → List ℕ → List ℕ
of_topic name attributes inside = classed name (codes "- topic/" ++ name ++ codes " ") attributes inside

-- an element of a type of a domain, which specializes this base type
abbrev pub of_domain : List ℕ → List ℕ → List ℕ → List Given → List ℕ → List ℕ
of_domain base domain name attributes inside =
    classed name (codes "+ " ++ base ++ codes " " ++ domain ++ codes "/" ++ name ++ codes " ") attributes inside
