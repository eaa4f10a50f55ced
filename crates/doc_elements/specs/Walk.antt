-- What siblings of a document and an element that was found among them are, if the document stands under a name.
use Rattle.std.specs.Prelude.{ℕ, List, Option, option_map, find}
use Rattle.std.specs.Borrow.{Bor}
use Rattle.dita_doc.specs.Siblings.{content}
use Rattle.dita_doc.specs.declared.doc.Node as doc
use Rattle.dita_doc.specs.declared.siblings.Siblings.{Siblings}
use Rattle.map_spec.specs.Elements.{is_whole}
use Rattle.map_spec.specs.Written.{Element, Whole, Written, elements_below, written_in}

abbrev pub content_in : List ℕ → Siblings → Written
content_in name siblings = written_in name (content siblings)

abbrev pub element_of : List ℕ → doc.Node → Element
element_of name node =
    record { name = node.text; attributes = node.attributes; doc = name; line = node.line; href_doc = name }

-- an element that was found, and what it holds
abbrev pub FoundElement : Type 0
FoundElement = Bor doc.Node × Siblings

abbrev pub whole_of : List ℕ → FoundElement → Whole
whole_of name found = (element_of name found.0.now, content_in name found.1)

abbrev pub found_in : List ℕ → Option FoundElement → Option Whole
found_in name found = option_map (whole_of name) found

-- the first element of a type, in document order
abbrev pub first_below : List ℕ → Written → Option Whole
first_below token nodes = find (is_whole token) (elements_below nodes)
