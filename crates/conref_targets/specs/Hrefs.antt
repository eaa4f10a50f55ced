-- Documents that hrefs name (own): answers name each of them, seen from the document in which the href was written.
use Rattle.std.specs.Prelude.{ℕ, List, [], ◌∷◌, IsTrue, bytes_eq, codes}
use Rattle.std.specs.Option.{option_to_list}
use Rattle.dita_doc.specs.declared.doc.Attribute.{Attribute}
use Rattle.map_spec.specs.Written.{Element, Written}
use Rattle.readers.specs.Founded.{AreAllowed}
use Rattle.readers.specs.Named.{name_joined}
use Rattle.readers.specs.Told.{Told}
use Rattle.conref_targets.specs.Each.{OfEach, OfWhole}
use Rattle.conref_targets.specs.declared.origin.Whole.{Whole}

-- answers that were told name the document that a value names
pub record IsNamed (told : List Told) (doc value : List ℕ) : Type 0 where
  pub by : (roots : List (List ℕ)) → AreAllowed roots told (option_to_list (name_joined doc value))

-- the same of each href among attributes
abbrev pub AreNamed : List Told → List ℕ → List Attribute → Type 0
AreNamed told doc [] = Unit {0}
AreNamed told doc (written ∷ attributes) =
    (IsTrue (bytes_eq written.name (codes "href")) → IsNamed told doc written.value) × AreNamed told doc attributes

-- of those of an element
abbrev pub HasNamed : List Told → Element → Type 0
HasNamed told element = AreNamed told element.href_doc element.attributes

-- of those of all elements among nodes
abbrev pub HaveNamed : List Told → Written → Type 0
HaveNamed told nodes = OfEach (HasNamed told) nodes

abbrev pub WholeNamed : List Told → Whole → Type 0
WholeNamed told whole = OfWhole (HasNamed told) whole
