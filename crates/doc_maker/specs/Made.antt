-- A document in the making: the names of its origins, the nodes that were put, for each the origin of its href and the
-- names of the conditional attributes that are declared for it, and the places of the elements that are open, the
-- innermost first.
use Rattle.std.specs.Prelude.{◌≡◌, ◌+◌, ◌<◌, ℕ, zero, suc, Bool, false, IsTrue, List, [], ◌∷◌, length, take, drop, reverse, slice_get, unwrap_or}
use Rattle.dita_doc.specs.Tree as tree
use Rattle.dita_doc.specs.Tree.{Content, ArePreorder, are_own, are_placed, are_places, content_of, is_element, doc_node_limit, size_of, tree_of}
use Rattle.dita_doc.specs.declared.content.Resolved.{Resolved}
use Rattle.dita_doc.specs.declared.doc.Node as doc
use Rattle.map_spec.specs.Written.{Element, Written, End, Chars, Node}
use Rattle.readers.specs.Named.{name_at}
use Rattle.doc_maker.specs.Building.{Building, Top, Within}

pub record MadeContent : Type 0 where
  pub names : List (List ℕ)
  pub nodes : List doc.Node
  pub hrefs : List ℕ
  pub declared : List (List (List ℕ))
  pub opened : List ℕ

-- the same by the places of the open elements with the innermost last
abbrev pub made_of : List (List ℕ) → List doc.Node → List ℕ → List (List (List ℕ)) → List ℕ → MadeContent
made_of names nodes hrefs declared places = record {
  names = names;
  nodes = nodes;
  hrefs = hrefs;
  declared = declared;
  opened = reverse places;
}

-- the first of some nodes is an element
abbrev pub begins_element : List doc.Node → Bool
begins_element [] = false
begins_element (node ∷ nodes) = is_element node.kind

-- Nothing is open, and the nodes are the preorder of a tree. Or an element stands at the innermost place, what stands behind
-- it is a preorder, and what stands before it has the other open elements.
abbrev pub AreOpen : List doc.Node → List ℕ → Type 0
AreOpen nodes [] = ArePreorder nodes 0
AreOpen nodes (place ∷ outer) = IsTrue (begins_element (drop place nodes))
    × ArePreorder (drop (place + 1) nodes) (place + 1) × AreOpen (take place nodes) outer

pub record IsMade (made : MadeContent) : Type 0 where
  pub tree : AreOpen made.nodes made.opened
  pub small : length made.nodes < doc_node_limit
  pub placed : IsTrue (are_placed (length made.names) made.nodes)
  pub each : length made.hrefs ≡ length made.nodes
  pub hrefs : IsTrue (are_places (length made.names) made.hrefs)
  pub own : IsTrue (are_own made.nodes made.hrefs)
  pub named : length made.declared ≡ length made.nodes

-- a change of the node at a place
abbrev pub changed_at : ℕ → (doc.Node → doc.Node) → List doc.Node → List doc.Node
changed_at place change [] = []
changed_at zero change (node ∷ nodes) = change node ∷ nodes
changed_at (suc place) change (node ∷ nodes) = node ∷ changed_at place change nodes

abbrev pub ending : ℕ → doc.Node → doc.Node
ending end node = record node { end = end }

-- the nodes in which the subtree of the one at this place is all that stands behind it
abbrev pub with_end : ℕ → List doc.Node → List doc.Node
with_end place nodes = changed_at place (ending (length nodes)) nodes

-- What was put, as the language sees it: each node under the name at its origin's place, and each element's href in the
-- document at the place that is kept for it

-- the document in which the href of the node at a place was written
abbrev pub href_home : List (List ℕ) → List ℕ → ℕ → List ℕ
href_home names hrefs place = name_at names (unwrap_or (slice_get hrefs place) 0)

abbrev pub element_of : List (List ℕ) → List ℕ → ℕ → doc.Node → Element
element_of names hrefs place node = record {
  name = node.text;
  attributes = node.attributes;
  doc = name_at names node.origin;
  line = node.line;
  href_doc = href_home names hrefs place;
}

-- content of which the first node stands at this place
abbrev pub written_from : List (List ℕ) → List ℕ → ℕ → Content → Written
written_from names hrefs place tree.End = End
written_from names hrefs place (tree.Chars text origin line rest) =
    Chars text (name_at names origin) (written_from names hrefs (place + 1) rest)
written_from names hrefs place (tree.Element name attributes origin line inside rest) =
    Node (record {
      name = name;
      attributes = attributes;
      doc = name_at names origin;
      line = line;
      href_doc = href_home names hrefs place;
    })
    (written_from names hrefs (place + 1) inside) (written_from names hrefs (place + 1 + size_of inside) rest)

-- resolved content
abbrev pub resolved_tree : Resolved → Written
resolved_tree body = written_from body.doc.origins body.hrefs 0 (tree_of body.doc.nodes)

-- the element that stands first among nodes
abbrev pub first_element : List (List ℕ) → List ℕ → ℕ → List doc.Node → Element
first_element names hrefs place [] = record { name = []; attributes = []; doc = []; line = 0; href_doc = [] }
first_element names hrefs place (node ∷ nodes) = element_of names hrefs place node

-- what stands behind the innermost open element is what it holds so far, and what stands before it has the others
abbrev pub building_of : List (List ℕ) → List ℕ → List doc.Node → List ℕ → Building
building_of names hrefs nodes [] = Top (written_from names hrefs 0 (content_of nodes 0))
building_of names hrefs nodes (place ∷ outer) = Within (building_of names hrefs (take place nodes) outer)
    (first_element names hrefs place (drop place nodes))
    (written_from names hrefs (place + 1) (content_of (drop (place + 1) nodes) (place + 1)))

abbrev pub building : MadeContent → Building
building made = building_of made.names made.hrefs made.nodes made.opened

-- for each node that was put, the names that are declared for it
abbrev pub declared : MadeContent → List (List (List ℕ))
declared made = made.declared
