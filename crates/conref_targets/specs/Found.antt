-- What references name, and how it was found (own).
use Rattle.std.specs.Prelude.{◌≡◌, ◌+◌, ◌||◌, ℕ, Bool, List, [], ◌∷◌, ◌++◌, Option, Some, None, is_some, slice_get, unwrap_or, if◌then◌else◌}
use Rattle.std.specs.Arc.{arc_value}
use Rattle.std.specs.Option.{option_and_then, option_or}
use Rattle.dita_doc.specs.Tree as tree
use Rattle.dita_doc.specs.Tree.{Content, size_of, tree_of}
use Rattle.dita_doc.specs.declared.doc.Attribute.{Attribute}
use Rattle.dita_doc.specs.declared.doc.Doc.{Doc}
use Rattle.dita_doc.specs.declared.fault.Fault.{Fault}
use Rattle.dita_doc.specs.declared.fault.FaultCode.TheVariants as faults
use Rattle.map_spec.specs.Elements.{fault_at}
use Rattle.map_spec.specs.Keys.{key_of}
use Rattle.map_spec.specs.Written.{Element}
use Rattle.conref_spec.specs.Content as content
use Rattle.conref_spec.specs.Content.{ResolveInput, Sought, by_key, found_by, conkeyref_faults, missing_fault, value_used}
use Rattle.map_spec.specs.Places.{Standing}
use Rattle.readers.specs.Named.{under_names, named_tree}
use Rattle.conref_targets.specs.Origin.{first_whole}
use Rattle.conref_targets.specs.Parts.{AreSiblingsAt, ends_of}
use Rattle.conref_targets.specs.Tables.{AreTables, Documents}
use Rattle.conref_targets.specs.declared.find.Found.{Found}
use Rattle.conref_targets.specs.declared.find.Keyed.{Keyed}
use Rattle.conref_targets.specs.declared.tables.PlaceTables.{PlaceTables}

-- an element stands in the document where it is said to stand
pub record StandsIn (doc : Doc) (standing : Standing) : Type 0 where
  pub name : List ℕ
  pub attributes : List Attribute
  pub origin : ℕ
  pub line : ℕ
  pub inside : Content
  pub rest : Content
  pub part : AreSiblingsAt (tree_of doc.nodes) standing.place (tree.Element name attributes origin line inside rest)
  pub whole :
      first_whole doc.origins (tree.Element name attributes origin line inside rest) ≡ Some standing.whole
  pub behind : standing.behind ≡ under_names doc.origins rest
  pub ends :
      slice_get (ends_of (named_tree doc)) standing.place ≡
      Some (standing.place + 1 + size_of inside + size_of rest)

-- this is what was meant
pub record IsFound (documents : Documents) (meant : content.Found) (found : Found) : Type 0 where
  pub name : found.name ≡ meant.doc
  pub nodes : named_tree (arc_value found.doc) ≡ meant.nodes
  pub stored : documents meant.doc ≡ Some meant.nodes
  pub place : found.place ≡ meant.standing.place
  pub stands : StandsIn (arc_value found.doc) meant.standing

abbrev pub AreFound : Documents → Option content.Found → Option Found → Type 0
AreFound documents None None = Unit {0}
AreFound documents None (Some found) = ⊥
AreFound documents (Some meant) None = ⊥
AreFound documents (Some meant) (Some found) = IsFound documents meant found

abbrev pub HasValue : List ℕ → Option Found → Type 0
HasValue value None = Unit {0}
HasValue value (Some found) = found.value.now ≡ value

-- what was looked for was found, under this value, and the tables are right
pub record IsSearch (documents : Documents) (meant : Option content.Found) (value : List ℕ) (places : PlaceTables)
    (result : Option Found) : Type 0 where
  pub found : AreFound documents meant result
  pub named : HasValue value result
  pub tables : AreTables documents places

-- the node that defines the key of a key reference
abbrev pub node_of_key : ResolveInput → Option (List ℕ) → Option ℕ
node_of_key setting keyref = option_and_then (λ key. (setting.key (key_of key)).node) keyref

-- what a key reference names, whether its key is defined, and its faults
pub record IsKeyed (setting : ResolveInput) (keyref : Option (List ℕ)) (old new : List Fault) (places : PlaceTables)
    (keyed : Keyed) : Type 0 where
  pub search : IsSearch setting.pushed (by_key setting keyref) (unwrap_or keyref []) places keyed.found
  pub defined : keyed.is_defined ≡ is_some (node_of_key setting keyref)
  pub faults : new ≡ old ++ conkeyref_faults setting keyref

-- the fault of a reference that names nothing, by whether its key is defined
abbrev pub missing_by : Element → Sought → Bool → Fault
missing_by element sought defined = if is_some sought.conref || defined
    then fault_at element faults.ConrefMissing (unwrap_or (option_or sought.conref sought.conkeyref) [])
    else fault_at element faults.KeyUndefined (key_of (unwrap_or sought.conkeyref []))

-- the faults of a reference: those of its key, and its own if it names nothing
abbrev pub search_faults : ResolveInput → Element → Sought → Option content.Found → List Fault
search_faults setting element sought None =
    conkeyref_faults setting sought.conkeyref ++ missing_fault setting element sought ∷ []
search_faults setting element sought (Some target) = conkeyref_faults setting sought.conkeyref

-- what an element's reference names was looked for, and its faults were appended
pub record IsReferenced (setting : ResolveInput) (topic : List ℕ) (element : Element) (sought : Sought)
    (old new : List Fault) (places : PlaceTables) (result : Option Found) : Type 0 where
  pub search :
      IsSearch setting.pushed (found_by setting topic element sought) (value_used setting sought) places result
  pub faults : new ≡ old ++ search_faults setting element sought (found_by setting topic element sought)
