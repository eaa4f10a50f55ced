-- A document with some pushes into it, and the documents that pushes come from (own).
use Rattle.std.specs.Prelude.{ℕ, List, ◌∷◌, Option, map, option_map}
use Rattle.dita_doc.specs.declared.content.Push.{Push}
use Rattle.dita_doc.specs.declared.doc.Doc.{Doc}
use Rattle.map_spec.specs.Written.{Written, document}
use Rattle.map_spec.specs.Pushes.{pushed_from}
use Rattle.reader_spec.specs.World.{World}
use Rattle.readers.specs.Named.{named_tree}

-- the document of this name with these pushes, if it stands there
abbrev pub pushed_by : World → List Push → List ℕ → Option Written
pushed_by world pushes name = option_map (pushed_from world pushes 0) (document world name)

abbrev pub named_doc : Option Doc → Option Written
named_doc found = option_map named_tree found

-- the documents that they come from
abbrev pub froms : List Push → List (List ℕ)
froms pushes = map (λ (push : Push). push.from) pushes

-- the document, and those that they come from
abbrev pub docs_of : List ℕ → List Push → List (List ℕ)
docs_of name pushes = name ∷ froms pushes
