-- The root of a document, without what it holds (own).
use Rattle.std.specs.Prelude.{ℕ, List, Option, option_map}
use Rattle.dita_doc.specs.declared.doc.Node as doc
use Rattle.doc_elements.specs.Walk.{element_of}
use Rattle.map_spec.specs.Written.{Element, Whole, Written, first_sibling}

-- the first element among siblings
abbrev pub root_element : Written → Option Element
root_element nodes = option_map (λ (root : Whole). root.0) (first_sibling nodes)

-- a node that may be there, as an element of a document of this name
abbrev pub root_named : List ℕ → Option doc.Node → Option Element
root_named name node = option_map (element_of name) node
