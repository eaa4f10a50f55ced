-- What the texts of content change in its HTML (own): no tag.
use Rattle.std.specs.Prelude.{◌≡◌, ◌+◌, ℕ, List, [], map}
use Rattle.map_spec.specs.Written.{Written, End, Chars, Node, size}
use Rattle.html_laws.specs.Markup.{AreNodes, Attribute, Element, Nodes, NoNodes, Text, Void, nodes_bytes}

-- tags alone: nodes without texts, and without the values of attributes

abbrev pub without_value : Attribute → Attribute
without_value attribute = record { name = attribute.name; value = [] }

abbrev pub tags_alone : Nodes → Nodes
tags_alone NoNodes = NoNodes
tags_alone (Text piece more) = tags_alone more
tags_alone (Void name attributes more) = Void name (map without_value attributes) (tags_alone more)
tags_alone (Element name attributes inside more) =
    Element name (map without_value attributes) (tags_alone inside) (tags_alone more)

-- two markups with the same tags
pub record HaveSameTags (bytes others : List ℕ) : Type 0 where
  pub nodes : Nodes
  pub again : Nodes
  pub are : AreNodes nodes
  pub are_too : AreNodes again
  pub first : bytes ≡ nodes_bytes nodes
  pub second : others ≡ nodes_bytes again
  pub same : tags_alone nodes ≡ tags_alone again

-- content with other texts: at each place of a text the one that is given for the place
abbrev pub with_texts : (ℕ → List ℕ) → ℕ → Written → Written
with_texts texts place End = End
with_texts texts place (Chars text doc rest) = Chars (texts place) doc (with_texts texts (place + 1) rest)
with_texts texts place (Node element inside rest) =
    Node element (with_texts texts (place + 1) inside) (with_texts texts (place + 1 + size inside) rest)
