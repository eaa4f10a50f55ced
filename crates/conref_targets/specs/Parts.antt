-- Siblings of a document by the place where the first of them stands (own): what an element holds, or the last of it; where
-- they end, and those among the first so many nodes.
use Rattle.std.specs.Prelude.{◌≡◌, ◌+◌, ◌-◌, ◌==◌, ℕ, Bool, true, false, List, [], ◌∷◌, ◌++◌, Option, Some, None, if◌then◌else◌}
use Rattle.dita_doc.specs.Tree as tree
use Rattle.dita_doc.specs.Tree.{Content, size_of, tree_of}
use Rattle.dita_doc.specs.declared.doc.Attribute.{Attribute}
use Rattle.dita_doc.specs.declared.doc.Doc.{Doc}
use Rattle.map_spec.specs.Written.{Written, End, Chars, Node, size}
use Rattle.conref_spec.specs.Content.{has_end_id}

-- these siblings of the tree stand at this place
pub data AreSiblingsAt (all : Content) : ℕ → Content → Type 0 where
  whole : AreSiblingsAt all 0 all
  past_text : {place : ℕ} {text : List ℕ} {origin line : ℕ} {rest : Content}
      → AreSiblingsAt all place (tree.Chars text origin line rest) → AreSiblingsAt all (place + 1) rest
  within : {place : ℕ} {name : List ℕ} {attributes : List Attribute} {origin line : ℕ} {inside rest : Content}
      → AreSiblingsAt all place (tree.Element name attributes origin line inside rest)
      → AreSiblingsAt all (place + 1) inside
  past : {place : ℕ} {name : List ℕ} {attributes : List Attribute} {origin line : ℕ} {inside rest : Content}
      → AreSiblingsAt all place (tree.Element name attributes origin line inside rest)
      → AreSiblingsAt all (place + 1 + size_of inside) rest

-- siblings stand from one place to another
pub record StandWithin (doc : Doc) (from to : ℕ) : Type 0 where
  pub part : Content
  pub is : AreSiblingsAt (tree_of doc.nodes) from part
  pub ends : from + size_of part ≡ to

-- for each of these siblings and each node below, the place behind the last of its own siblings
abbrev pub ends_from : ℕ → ℕ → Written → List ℕ
ends_from end place End = []
ends_from end place (Chars text doc rest) = end ∷ ends_from end (place + 1) rest
ends_from end place (Node element inside rest) = end
    ∷ (ends_from (place + 1 + size inside) (place + 1) inside ++ ends_from end (place + 1 + size inside) rest)

-- the same for all nodes of a document
abbrev pub ends_of : Written → List ℕ
ends_of nodes = ends_from (size nodes) 0 nodes

-- the place behind the first of some siblings that ends a range
abbrev pub end_place : List ℕ → ℕ → Written → Option ℕ
end_place id place End = None
end_place id place (Chars text doc rest) = end_place id (place + 1) rest
end_place id place (Node element inside rest) =
    if has_end_id id element then Some (place + 1 + size inside) else end_place id (place + 1 + size inside) rest

-- the siblings that stand among the first so many nodes
abbrev pub among_first : ℕ → Written → Written
among_first count End = End
among_first count (Chars text doc rest) =
    if count == 0 then End else Chars text doc (among_first (count - 1) rest)
among_first count (Node element inside rest) =
    if count == 0 then End else Node element inside (among_first (count - (1 + size inside)) rest)

-- there is a first of these siblings
abbrev pub has_first : Content → Bool
has_first tree.End = false
has_first (tree.Chars text origin line rest) = true
has_first (tree.Element name attributes origin line inside rest) = true

-- the first of some siblings alone
abbrev pub first_alone : Written → Written
first_alone End = End
first_alone (Chars text doc rest) = Chars text doc End
first_alone (Node element inside rest) = Node element inside End
