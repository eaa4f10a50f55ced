-- Documents that were told (own): what their elements name may be asked about, and what follows from them asked for.
use Rattle.std.specs.Prelude.{ℕ, List, [], ◌∷◌, ◌++◌, Option, Some, None, IsTrue}
use Rattle.std.specs.Arc.{arc_value}
use Rattle.std.specs.declared.alloc.Global.{Global}
use Rattle.std.specs.declared.sync.Arc.{Arc}
use Rattle.dita_doc.specs.Tree.{tree_of}
use Rattle.dita_doc.specs.declared.doc.Doc.{Doc}
use Rattle.readers.specs.Documents.{Follows, may_ask}
use Rattle.readers.specs.Founded.{is_allowed, is_among, names_given}
use Rattle.readers.specs.Told.{Told, document}
use Rattle.plan_nodes.specs.declared.node_elements.NamedDoc.{NamedDoc}

-- an answer was told
pub record WasTold (told : List Told) (t : Told) : Type 0 where
  pub allowed : (roots : List (List ℕ)) (m : List ℕ) → IsTrue (is_among (names_given t) m)
      → IsTrue (is_allowed roots told m)
  pub may : (rule : Follows) (roots : List (List ℕ)) (m : List ℕ) → IsTrue (is_among (rule t) m)
      → IsTrue (may_ask rule roots told m)

-- a document under its name, as it is told
abbrev pub told_of : NamedDoc → Told
told_of named = document named.name (Some (tree_of (arc_value named.doc).nodes))

abbrev pub AreToldDocs : List Told → List NamedDoc → Type 0
AreToldDocs told [] = Unit {0}
AreToldDocs told (named ∷ docs) = WasTold told (told_of named) × AreToldDocs told docs

-- the document that was found under a name stands behind the others
abbrev pub with_found : List NamedDoc → List ℕ → Option (Arc Doc Global) → List NamedDoc
with_found docs name None = docs
with_found docs name (Some doc) = docs ++ record { name = name; doc = doc } ∷ []
