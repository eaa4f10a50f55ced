-- The tree of a document and its preorder. An element has a name, attributes and content; a text has characters.
-- Each node knows in which of the document's origins, and an element in which line, it was written.
use Rattle.std.specs.Prelude.{◌≡◌, ◌+◌, ◌-◌, ◌==◌, ◌^◌, ◌&&◌, ◌||◌, ℕ, zero, suc, Bool, true, false, List, [], ◌∷◌, ◌++◌, codes, is_some, length, take, drop, nat_lt, if◌then◌else◌}
use Rattle.std.specs.List.{list_all}
use Rattle.dita_doc.specs.ClassValue.{value_of}
use Rattle.dita_doc.specs.declared.doc.Attribute.{Attribute}
use Rattle.dita_doc.specs.declared.doc.Node.{Node}
use Rattle.dita_doc.specs.declared.doc.NodeKind.{NodeKind}
use Rattle.dita_doc.specs.declared.doc.NodeKind.TheVariants as kinds

-- what an element holds: nothing more; a text and more; or an element, with what it holds, and more
pub data Content : Type 0 where
  End : Content
  Chars : (text : List ℕ) (origin line : ℕ) (rest : Content) → Content
  Element : (name : List ℕ) (attributes : List Attribute) (origin line : ℕ) (inside rest : Content) → Content

-- the node of an element whose subtree ends before the place `end`, and that of a text
abbrev pub element_node : List ℕ → List Attribute → ℕ → ℕ → ℕ → Node
element_node name attributes origin line end =
    record { kind = kinds.Element; text = name; attributes = attributes; origin = origin; line = line; end = end }

abbrev pub chars_node : List ℕ → ℕ → ℕ → ℕ → Node
chars_node text origin line end = record {
  kind = kinds.Chars;
  text = text;
  attributes = [];
  origin = origin;
  line =
      line;
  end = end;
}

-- how many nodes it has
abbrev pub size_of : Content → ℕ
size_of End = 0
size_of (Chars text origin line rest) = 1 + size_of rest
size_of (Element name attributes origin line inside rest) = 1 + (size_of inside + size_of rest)

-- the nodes in preorder, the first of them at this place; each tells the place just past its subtree
abbrev pub nodes_of : Content → ℕ → List Node
nodes_of End place = []
nodes_of (Chars text origin line rest) place = chars_node text origin line (place + 1) ∷ nodes_of rest (place + 1)
nodes_of (Element name attributes origin line inside rest) place =
    let end = place + 1 + size_of inside in
    element_node name attributes origin line end ∷ (nodes_of inside (place + 1) ++ nodes_of rest end)

abbrev pub is_element : NodeKind → Bool
is_element kinds.Element = true
is_element kinds.Chars = false

-- the content that at most so many nodes, from this place on, are the preorder of
abbrev pub content_within : ℕ → List Node → ℕ → Content
content_within zero nodes place = End
content_within (suc n) [] place = End
content_within (suc n) (node ∷ nodes) place =
    let count = node.end - (place + 1) in
    if is_element node.kind
    then Element node.text node.attributes node.origin node.line (content_within n (take count nodes) (place + 1))
    (content_within n (drop count nodes) node.end)
    else Chars node.text node.origin node.line (content_within n nodes (place + 1))

-- the content whose preorder the nodes are, if they are one
abbrev pub content_of : List Node → ℕ → Content
content_of nodes place = content_within (length nodes) nodes place

-- the nodes are the preorder of a content
abbrev pub ArePreorder : List Node → ℕ → Type 0
ArePreorder nodes place = nodes ≡ nodes_of (content_of nodes place) place

-- the tree of a document
abbrev pub tree_of : List Node → Content
tree_of nodes = content_of nodes 0

abbrev pub doc_node_limit : ℕ
doc_node_limit = 2 ^ 32

-- the origins of nodes are places among so many
abbrev pub are_places : ℕ → List ℕ → Bool
are_places count places = list_all (λ place. nat_lt place count) places

abbrev pub are_placed : ℕ → List Node → Bool
are_placed count nodes = list_all (λ (node : Node). nat_lt node.origin count) nodes

abbrev pub has_href : List Attribute → Bool
has_href attributes = is_some (value_of (codes "href") attributes)

-- each of these nodes that has no href has its own origin beside it
abbrev pub are_own : List Node → List ℕ → Bool
are_own [] hrefs = true
are_own (node ∷ nodes) [] = true
are_own (node ∷ nodes) (href ∷ hrefs) = (has_href node.attributes || node.origin == href) && are_own nodes hrefs
