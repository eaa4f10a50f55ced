-- Where the elements of nodes stand (own): in which of some documents, and at which place. No home is no element.
use Rattle.std.specs.Prelude.{◌≡◌, ◌<◌, ◌++◌, ℕ, List, [], ◌∷◌, Option, Some, None, length, map, option_map, slice_get}
use Rattle.std.specs.Arc.{arc_value}
use Rattle.std.specs.Option.{option_and_then, option_map_or}
use Rattle.dita_doc.specs.Tree.{tree_of}
use Rattle.dita_doc.specs.declared.plan.PlanNode.{PlanNode}
use Rattle.map_spec.specs.Cascade.{whole_at}
use Rattle.map_spec.specs.Written.{Element, Whole, Written, document, element_at, written_in}
use Rattle.reader_spec.specs.World.{World}
use Rattle.plan_nodes.specs.declared.node_elements.Home.{Home}
use Rattle.plan_nodes.specs.declared.node_elements.NamedDoc.{NamedDoc}

-- a document under its name
abbrev pub written_of : NamedDoc → Written
written_of named = written_in named.name (tree_of (arc_value named.doc).nodes)

abbrev pub document_at : List NamedDoc → Option ℕ → Option Written
document_at docs None = None
document_at docs (Some at) = option_map written_of (slice_get docs at)

abbrev pub whole_in : Option Written → ℕ → Option Whole
whole_in nodes place = option_and_then (λ (found : Written). element_at found place) nodes

abbrev pub whole_of : List NamedDoc → Option Home → Option Whole
whole_of docs None = None
whole_of docs (Some home) = whole_in (document_at docs (Some home.doc)) home.place

-- the element alone
abbrev pub element_of : List NamedDoc → Home → Option Element
element_of docs home = option_map (λ (whole : Whole). whole.0) (whole_of docs (Some home))

-- the name of the document at a place, if one stands there
abbrev pub name_of : List NamedDoc → ℕ → List ℕ
name_of docs at = option_map_or (λ (named : NamedDoc). named.name) (slice_get docs at) []

-- Places among so many documents

abbrev pub IsWithin : ℕ → Option ℕ → Type 0
IsWithin count None = Unit {0}
IsWithin count (Some at) = at < count

abbrev pub doc_of : Option Home → Option ℕ
doc_of home = option_map (λ (h : Home). h.doc) home

abbrev pub AreWithin : ℕ → List (Option Home) → Type 0
AreWithin count [] = Unit {0}
AreWithin count (home ∷ homes) = IsWithin count (doc_of home) × AreWithin count homes

-- What a world says of them

abbrev pub Known : Type 0
Known = List ℕ × Option ℕ

-- a name has the place of its document
pub record IsKnown (world : World) (docs : List NamedDoc) (name : List ℕ) (place : Option ℕ) : Type 0 where
  pub within : IsWithin (length docs) place
  pub is : document_at docs place ≡ document world name

abbrev pub AreKnown : World → List NamedDoc → List Known → Type 0
AreKnown world docs [] = Unit {0}
AreKnown world docs (entry ∷ entries) = IsKnown world docs entry.0 entry.1 × AreKnown world docs entries

-- documents are put behind others
abbrev pub Longer : List NamedDoc → List NamedDoc → Type 0
Longer old new = (more : List NamedDoc) × (new ≡ old ++ more)

-- the place of a document was found, or it was asked for
pub record IsDocOf (world : World) (old new : List NamedDoc) (entries : List Known) (name : List ℕ)
    (place : Option ℕ) : Type 0 where
  pub longer : Longer old new
  pub known : AreKnown world new entries
  pub here : IsKnown world new name place

pub record IsHomeOf (world : World) (old new : List NamedDoc) (entries : List Known) (node : PlanNode)
    (home : Option Home) : Type 0 where
  pub longer : Longer old new
  pub known : AreKnown world new entries
  pub within : IsWithin (length new) (doc_of home)
  pub is : whole_of new home ≡ whole_at world node

-- what was found for the nodes so far
pub record AreHomesOf (world : World) (docs : List NamedDoc) (entries : List Known) (nodes : List PlanNode)
    (homes : List (Option Home)) : Type 0 where
  pub known : AreKnown world docs entries
  pub within : AreWithin (length docs) homes
  pub are : map (whole_of docs) homes ≡ map (whole_at world) nodes

abbrev pub home_at : List (Option Home) → ℕ → Option Home
home_at homes at = option_and_then (λ (home : Option Home). home) (slice_get homes at)
