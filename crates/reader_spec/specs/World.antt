-- A world: the tree of the document that stands under each name, if one does.
use Rattle.std.specs.Prelude.{ℕ, List, Option, option_map}
use Rattle.dita_doc.specs.Desk.{State, Stored, stored_under}
use Rattle.dita_doc.specs.Tree.{Content, tree_of}

abbrev pub World : Type 0
World = List ℕ → Option Content

abbrev pub stored_tree : Stored → Content
stored_tree stored = tree_of stored.nodes

-- the world of what is stored
abbrev pub world_of : State → World
world_of state name = option_map stored_tree (stored_under state name)
