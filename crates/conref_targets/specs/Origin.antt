-- An element where it stands in a document of several origins.
use Rattle.std.specs.Prelude.{ℕ, Bool, true, false, List, Option, Some, None, option_map}
use Rattle.dita_doc.specs.Siblings.{content, doc_of_siblings}
use Rattle.dita_doc.specs.Tree as tree
use Rattle.dita_doc.specs.Tree.{Content}
use Rattle.dita_doc.specs.declared.siblings.Siblings.{Siblings}
use Rattle.doc_elements.specs.Walk.{element_of}
use Rattle.map_spec.specs.Written as written
use Rattle.map_spec.specs.Written.{Element, Written}
use Rattle.readers.specs.Named.{name_at, under_names}
use Rattle.conref_targets.specs.declared.origin.Whole.{Whole}

-- siblings of a document, each node under the name at its origin's place
abbrev pub named_content : Siblings → Written
named_content siblings = under_names (doc_of_siblings siblings).origins (content siblings)

abbrev pub whole_of : Whole → written.Whole
whole_of whole = (element_of whole.origin.now whole.node.now, named_content whole.inside)

abbrev pub whole_shown : Option Whole → Option written.Whole
whole_shown whole = option_map whole_of whole

-- an element stands first
abbrev pub begins_element : Content → Bool
begins_element tree.End = false
begins_element (tree.Chars text origin line rest) = false
begins_element (tree.Element name attributes origin line inside rest) = true

-- this element
abbrev pub first_whole : List (List ℕ) → Content → Option written.Whole
first_whole names tree.End = None
first_whole names (tree.Chars text origin line rest) = None
first_whole names (tree.Element name attributes origin line inside rest) =
    let doc : List ℕ = name_at names origin in
    let element : Element =
    record { name = name; attributes = attributes; doc = doc; line = line; href_doc = doc } in
    Some (element, under_names names inside)
