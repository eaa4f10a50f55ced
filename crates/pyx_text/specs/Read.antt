-- What the reading of a text says of it.
use Rattle.std.specs.Prelude.{◌≡◌, ℕ, List}
use Rattle.dita_doc.specs.declared.doc.Node.{Node}
use Rattle.dita_doc.specs.Tree.{Content, nodes_of}
use Rattle.dita_doc.specs.Pyx.{StandsFor}
use Rattle.pyx_text.specs.Canonical.{SameApartFromLines}

-- the nodes are those of the tree that the text stands for
abbrev pub AreRead : List Node → List ℕ → Type 0
AreRead nodes text = (tree : Content) × StandsFor text tree × (nodes ≡ nodes_of tree 0)

-- the text stands for this tree, apart from the lines of its elements
abbrev pub StandsAgainFor : List ℕ → Content → Type 0
StandsAgainFor text tree = (other : Content) × StandsFor text other × SameApartFromLines tree other
