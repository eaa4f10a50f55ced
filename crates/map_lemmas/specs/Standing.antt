-- What the nodes of a map with its submaps stand for (own): each for an element at its place of its document, of which
-- its kind is true.
use Rattle.std.specs.Prelude.{◌≡◌, ℕ, true, List, Some, codes}
use Rattle.dita_doc.specs.declared.plan.PlanKind.{PlanKind}
use Rattle.dita_doc.specs.declared.plan.PlanKind.TheVariants as kinds
use Rattle.map_spec.specs.Elements.{is_a}
use Rattle.map_spec.specs.Included.{kind_of}
use Rattle.map_spec.specs.MapTree.{Head}
use Rattle.map_spec.specs.Written.{Element, Whole, element_in}
use Rattle.reader_spec.specs.World.{World}

-- the kind of node that its element makes by itself: one that includes a map is a reference
abbrev pub made_as : PlanKind → PlanKind
made_as kinds.Included = kinds.Reference
made_as kind = kind

-- a node of this kind may stand for the element: a map's for a map, each other for an element that makes such a node
abbrev pub IsOfKind : PlanKind → Element → Type 0
IsOfKind kinds.Map element = is_a (codes "map/map") element ≡ true
IsOfKind kind element = kind_of element ≡ Some (made_as kind)

pub record StandsFor (world : World) (kind : PlanKind) (doc : List ℕ) (place : ℕ) : Type 0 where
  pub whole : Whole
  pub is : element_in world doc place ≡ Some whole
  pub fits : IsOfKind kind whole.0

abbrev pub HasElement : World → Head → Type 0
HasElement world head = StandsFor world head.kind head.doc head.place
