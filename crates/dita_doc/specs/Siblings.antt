-- What siblings of a document are, and the first of them.
use Rattle.std.specs.Prelude.{◌≡◌, ◌+◌, ℕ, zero, suc, Option, Some, None, slice_get}
use Rattle.dita_doc.specs.declared.doc.Doc.{Doc}
use Rattle.dita_doc.specs.declared.doc.Node.{Node}
use Rattle.dita_doc.specs.declared.siblings.Siblings.{Siblings}
use Rattle.dita_doc.specs.declared.siblings.First.{First}
use Rattle.dita_doc.specs.declared.siblings.First.TheVariants as first
use Rattle.dita_doc.specs.Tree.{Content, End, Chars, Element, content_of, size_of, tree_of}

abbrev pub content : Siblings → Content
content siblings = content_of siblings.nodes.now siblings.place

-- the document that they stand in
abbrev pub doc_of_siblings : Siblings → Doc
doc_of_siblings siblings = siblings.doc.now

abbrev pub IsFirst : Content → First → Type 0
IsFirst all first.End = all ≡ End
IsFirst all (first.Chars place node rest) = all ≡ Chars node.now.text node.now.origin node.now.line (content rest)
IsFirst all (first.Element place node inside rest) =
    all ≡ Element node.now.text node.now.attributes node.now.origin node.now.line (content inside) (content rest)

-- the first node, if there is one, stands at this place of the document
abbrev pub StandsAt : ℕ → First → Type 0
StandsAt at first.End = Unit {0}
StandsAt at (first.Chars place node rest) = place ≡ at
StandsAt at (first.Element place node inside rest) = place ≡ at

-- what it holds stands directly behind it, and the others behind that
abbrev pub PartsStandAt : ℕ → First → Type 0
PartsStandAt at first.End = Unit {0}
PartsStandAt at (first.Chars place node rest) = rest.place ≡ at + 1
PartsStandAt at (first.Element place node inside rest) = (inside.place ≡ at + 1)
    × (rest.place ≡ at + 1 + size_of (content inside))

-- and it is the document's node there
abbrev pub IsNodeOf : Doc → First → Type 0
IsNodeOf doc first.End = Unit {0}
IsNodeOf doc (first.Chars place node rest) = slice_get doc.nodes place ≡ Some node.now
IsNodeOf doc (first.Element place node inside rest) = slice_get doc.nodes place ≡ Some node.now

-- what it holds and what comes after it stand in this document
abbrev pub PartsAreOf : Doc → First → Type 0
PartsAreOf doc first.End = Unit {0}
PartsAreOf doc (first.Chars place node rest) = doc_of_siblings rest ≡ doc
PartsAreOf doc (first.Element place node inside rest) = (doc_of_siblings inside ≡ doc) × (doc_of_siblings rest ≡ doc)

-- Places in the preorder of a tree, of which the first is 0

-- one content behind another
abbrev pub content_behind : Content → Content → Content
content_behind End more = more
content_behind (Chars text origin line rest) more = Chars text origin line (content_behind rest more)
content_behind (Element name attributes origin line inside rest) more =
    Element name attributes origin line inside (content_behind rest more)

-- what the preorder has from this place on
abbrev pub content_from : ℕ → Content → Content
content_from zero all = all
content_from (suc place) End = End
content_from (suc place) (Chars text origin line rest) = content_from place rest
content_from (suc place) (Element name attributes origin line inside rest) = content_from place
    (content_behind inside rest)

-- the element that stands first, with what it holds and nothing behind it
abbrev pub first_element : Content → Option Content
first_element End = None
first_element (Chars text origin line rest) = None
first_element (Element name attributes origin line inside rest) =
    Some (Element name attributes origin line inside End)

abbrev pub content_at : Content → ℕ → Option Content
content_at all place = first_element (content_from place all)

-- the document's element at this place has this node and holds these siblings
pub record IsElementAt (doc : Doc) (place : ℕ) (node : Node) (inside : Siblings) : Type 0 where
  pub element :
      content_at (tree_of doc.nodes) place ≡
      Some (Element node.text node.attributes node.origin node.line (content inside) End)
  pub here : slice_get doc.nodes place ≡ Some node
  pub within : doc_of_siblings inside ≡ doc
