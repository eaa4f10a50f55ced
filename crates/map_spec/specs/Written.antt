-- Content as the language sees it (own): each element and each text with the document in which it was written. Where
-- content of several documents is put together, each part goes on to say where it was written.
use Rattle.std.specs.Prelude.{◌+◌, ◌-◌, ◌==◌, ℕ, List, [], ◌∷◌, ◌++◌, Option, Some, None, option_map, nat_lt, if◌then◌else◌}
use Rattle.std.specs.Option.{option_and_then}
use Rattle.dita_doc.specs.Tree as tree
use Rattle.dita_doc.specs.Tree.{Content}
use Rattle.dita_doc.specs.declared.doc.Attribute.{Attribute}
use Rattle.reader_spec.specs.World.{World}

-- an element, without what it holds. An href that was taken from another element was written in that element's document
pub record Element : Type 0 where
  pub name : List ℕ
  pub attributes : List Attribute
  pub doc : List ℕ
  pub line : ℕ
  pub href_doc : List ℕ

-- nodes side by side: none; a text and more; or an element, with what it holds, and more
pub data Written : Type 0 where
  End : Written
  Chars : (text doc : List ℕ) (rest : Written) → Written
  Node : (element : Element) (inside rest : Written) → Written

-- the tree of a document, written under this name
abbrev pub written_in : List ℕ → Content → Written
written_in doc tree.End = End
written_in doc (tree.Chars text origin line rest) = Chars text doc (written_in doc rest)
written_in doc (tree.Element name attributes origin line inside rest) =
    Node (record { name = name; attributes = attributes; doc = doc; line = line; href_doc = doc })
    (written_in doc inside) (written_in doc rest)

-- the document that stands under a name
abbrev pub document : World → List ℕ → Option Written
document world name = option_map (written_in name) (world name)

-- Places: a node's place is how many nodes stand before it in preorder

abbrev pub size : Written → ℕ
size End = 0
size (Chars text doc rest) = 1 + size rest
size (Node element inside rest) = 1 + (size inside + size rest)

-- an element with what it holds
abbrev pub Whole : Type 0
Whole = Element × Written

-- the element at a place, counted from the first of these nodes
abbrev pub element_at : Written → ℕ → Option Whole
element_at End place = None
element_at (Chars text doc rest) place = if place == 0 then None else element_at rest (place - 1)
element_at (Node element inside rest) place =
    if place == 0 then Some (element, inside)
    else if nat_lt (size inside) place then element_at rest (place - (1 + size inside))
    else element_at inside (place - 1)

abbrev pub element_in : World → List ℕ → ℕ → Option Whole
element_in world name place = option_and_then (λ nodes. element_at nodes place) (document world name)

-- one after the other
abbrev pub side_by_side : Written → Written → Written
side_by_side End more = more
side_by_side (Chars text doc rest) more = Chars text doc (side_by_side rest more)
side_by_side (Node element inside rest) more = Node element inside (side_by_side rest more)

-- the elements among siblings, and all elements below, in document order
abbrev pub siblings : Written → List Whole
siblings End = []
siblings (Chars text doc rest) = siblings rest
siblings (Node element inside rest) = (element, inside) ∷ siblings rest

abbrev pub elements_below : Written → List Whole
elements_below End = []
elements_below (Chars text doc rest) = elements_below rest
elements_below (Node element inside rest) = (element, inside) ∷ (elements_below inside ++ elements_below rest)

-- the first element among siblings: a document's root
abbrev pub first_sibling : Written → Option Whole
first_sibling End = None
first_sibling (Chars text doc rest) = first_sibling rest
first_sibling (Node element inside rest) = Some (element, inside)

-- how many texts stand in front of the first element among siblings: the place of a document's root
abbrev pub first_place : Written → ℕ
first_place End = 0
first_place (Chars text doc rest) = 1 + first_place rest
first_place (Node element inside rest) = 0

-- all characters, in document order
abbrev pub characters : Written → List ℕ
characters End = []
characters (Chars text doc rest) = text ++ characters rest
characters (Node element inside rest) = characters inside ++ characters rest
