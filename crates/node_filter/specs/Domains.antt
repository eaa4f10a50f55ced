-- The conditional attributes that the documents of nodes declare (own): for each node which of some documents is its
-- own, if there is one.
use Rattle.std.specs.Prelude.{◌≡◌, ◌++◌, ℕ, List, [], ◌∷◌, Option, Some, None, length, map, slice_get}
use Rattle.std.specs.Borrow.{Bor}
use Rattle.std.specs.Option.{option_and_then}
use Rattle.dita_doc.specs.Tree.{Content}
use Rattle.dita_doc.specs.declared.plan.PlanNode.{PlanNode}
use Rattle.ditaval_rules.specs.Declarations.{AreDeclarations, Declaring}
use Rattle.map_spec.specs.Judged.{declared_in}
use Rattle.reader_spec.specs.World.{World}
use Rattle.plan_nodes.specs.HomeDocs.{IsWithin, Known}
use Rattle.node_filter.specs.declared.domains.DeclaredNames.{DeclaredNames}

-- the names that are declared for the element of a node
abbrev pub names_at : World → PlanNode → List (List ℕ)
names_at world node = declared_in world node.doc node.place

-- what each document declares, in order
abbrev pub Documents : Type 0
Documents = List (List Declaring)

abbrev pub document_at : Documents → Option ℕ → Option (List Declaring)
document_at documents None = None
document_at documents (Some at) = slice_get documents at

abbrev pub home_at : List (Option ℕ) → ℕ → Option ℕ
home_at homes at = option_and_then (λ (home : Option ℕ). home) (slice_get homes at)

-- what a document declares, if there is one
abbrev pub Declares : Option (List Declaring) → Option Content → Type 0
Declares None None = Unit {0}
Declares None (Some tree) = ⊥
Declares (Some declaring) None = ⊥
Declares (Some declaring) (Some tree) = AreDeclarations tree declaring

-- a name has the place of what its document declares
pub record IsKnown (world : World) (documents : Documents) (name : List ℕ) (place : Option ℕ) : Type 0 where
  pub within : IsWithin (length documents) place
  pub is : Declares (document_at documents place) (world name)

abbrev pub AreKnown : World → Documents → List Known → Type 0
AreKnown world documents [] = Unit {0}
AreKnown world documents (entry ∷ entries) =
    IsKnown world documents entry.0 entry.1 × AreKnown world documents entries

abbrev pub Longer : Documents → Documents → Type 0
Longer old new = (more : Documents) × (new ≡ old ++ more)

-- the place of what a document declares was found, or the document was asked for
pub record IsDocumentOf (world : World) (old new : Documents) (entries : List Known) (name : List ℕ)
    (place : Option ℕ) : Type 0 where
  pub longer : Longer old new
  pub known : AreKnown world new entries
  pub here : IsKnown world new name place

-- so for nodes, each in turn
abbrev pub AreHomes : World → Documents → List PlanNode → List (Option ℕ) → Type 0
AreHomes world documents [] [] = Unit {0}
AreHomes world documents [] (home ∷ homes) = ⊥
AreHomes world documents (node ∷ nodes) [] = ⊥
AreHomes world documents (node ∷ nodes) (home ∷ homes) =
    IsKnown world documents node.doc home × AreHomes world documents nodes homes

pub record AreHomesOf (world : World) (documents : Documents) (entries : List Known) (nodes : List PlanNode)
    (homes : List (Option ℕ)) : Type 0 where
  pub known : AreKnown world documents entries
  pub are : AreHomes world documents nodes homes

pub record AreDeclared (world : World) (nodes : List PlanNode) (declared : DeclaredNames) : Type 0 where
  pub are : AreHomes world declared.documents.items nodes declared.homes.items
  pub none : declared.none ≡ []

-- lists of names that are lent
abbrev pub shown : List (Bor (List (List ℕ))) → List (List (List ℕ))
shown names = map (λ (own : Bor (List (List ℕ))). own.now) names
