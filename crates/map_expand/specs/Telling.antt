-- Which maps a map names: the documents that the hrefs of its elements with the format of maps are joined to.
use Rattle.std.specs.Prelude.{ℕ, List, [], ◌∷◌, ◌++◌, Option, Some, None, IsTrue, codes, option_map, if◌then◌else◌}
use Rattle.dita_doc.specs.Tree.{tree_of}
use Rattle.map_spec.specs.Written as written
use Rattle.map_spec.specs.Elements.{attribute, has_value}
use Rattle.map_spec.specs.Target.{Named, Document, Elsewhere, Unreadable, named_of}
use Rattle.map_spec.specs.Written.{Element, Written, End, Chars, written_in}
use Rattle.readers.specs.Documents.{Covers, Follows, may_ask}
use Rattle.readers.specs.Founded.{is_allowed, is_among, names_given}
use Rattle.readers.specs.Told.{Told, document}
use Rattle.map_expand.specs.AskedFor.{asked_for}
use Rattle.map_expand.specs.Homes.{Home}

abbrev pub documents_of : Named → List (List ℕ)
documents_of (Document name) = name ∷ []
documents_of Elsewhere = []
documents_of Unreadable = []

abbrev pub href_targets : Element → Option (List ℕ) → List (List ℕ)
href_targets element None = []
href_targets element (Some href) = documents_of (named_of element href)

abbrev pub element_targets : Element → List (List ℕ)
element_targets element =
    if has_value (codes "format") (codes "ditamap") element then href_targets element (attribute (codes "href") element)
    else []

abbrev pub targets_in : Written → List (List ℕ)
targets_in End = []
targets_in (Chars text doc rest) = targets_in rest
targets_in (written.Node element inside rest) = element_targets element ++ (targets_in inside ++ targets_in rest)

abbrev pub targets_found : Option Written → List (List ℕ)
targets_found None = []
targets_found (Some nodes) = targets_in nodes

-- the maps that follow from a document that was told
abbrev pub map_targets : Follows
map_targets (document name tree) = targets_found (option_map (written_in name) tree)
map_targets _ = []

-- a document of these nodes, as it is told
abbrev pub told_of : Home → Told
told_of home = document home.name (Some (tree_of home.nodes))

-- a map was asked for, and what it names may be asked about
pub record IsTold (told : List Told) (home : Home) : Type 0 where
  pub asked : IsTrue (is_among (asked_for told) home.name)
  pub allowed : (roots : List (List ℕ)) (m : List ℕ) → IsTrue (is_among (names_given (told_of home)) m)
      → IsTrue (is_allowed roots told m)
  pub may : (rule : Follows) (roots : List (List ℕ)) → Covers rule map_targets → (m : List ℕ)
      → IsTrue (is_among (map_targets (told_of home)) m) → IsTrue (may_ask rule roots told m)

-- a name may be asked about, whatever the roots are
pub record MayName (told : List Told) (name : List ℕ) : Type 0 where
  pub allowed : (roots : List (List ℕ)) → IsTrue (is_allowed roots told name)
  pub may : (rule : Follows) (roots : List (List ℕ)) → Covers rule map_targets → IsTrue (may_ask rule roots told name)

abbrev pub MayFind : List Told → Named → Type 0
MayFind told (Document name) = MayName told name
MayFind told Elsewhere = Unit {0}
MayFind told Unreadable = Unit {0}
