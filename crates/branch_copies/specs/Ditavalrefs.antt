-- Which DITAVALs a map asks for (own): the documents that the hrefs of its ditavalrefs are joined to.
use Rattle.std.specs.Prelude.{◌≡◌, ◌⊎◌, ◌++◌, ℕ, Bool, true, List, [], ◌∷◌, Option, Some, None, IsTrue, codes, map, slice_get, if◌then◌else◌}
use Rattle.std.specs.List.{flat_map}
use Rattle.dita_doc.specs.Tree.{Content}
use Rattle.dita_doc.specs.declared.plan.PlanNode.{PlanNode}
use Rattle.map_spec.specs.Branches.{is_ditavalref}
use Rattle.map_spec.specs.Cascade.{whole_at}
use Rattle.map_spec.specs.Elements.{is_a}
use Rattle.map_spec.specs.Written.{Element, Whole, elements_below, written_in}
use Rattle.plan_nodes.specs.Given.{AreTold}
use Rattle.plan_nodes.specs.Home as home
use Rattle.readers.specs.Documents.{Follows, documents_asked, is_sought, nothing}
use Rattle.readers.specs.Founded.{is_among}
use Rattle.readers.specs.Told.{Told, document}
use Rattle.reader_spec.specs.World.{World}
use Rattle.branch_copies.specs.BranchRead.{targets_of}

abbrev pub is_ref : Element → Bool
is_ref element = is_a (codes "ditavalref-d/ditavalref") element

-- the DITAVAL that an element asks for, if it is a ditavalref
abbrev pub ref_targets : Element → List (List ℕ)
ref_targets element = if is_ref element then targets_of element else []

abbrev pub targets_in : List ℕ → Option Content → List (List ℕ)
targets_in name None = []
targets_in name (Some tree) =
    flat_map (λ (whole : Whole). ref_targets whole.0) (elements_below (written_in name tree))

-- the DITAVALs that follow from a document that was told
abbrev pub ditaval_targets : Follows
ditaval_targets (document name tree) = targets_in name tree
ditaval_targets _ = []

-- the nodes of ditavalrefs stand for ditavalrefs
pub record AreDitavalrefs (homes : List (Option Whole)) (nodes : List PlanNode) : Type 0 where
  pub each : (at : ℕ) (node : PlanNode) (whole : Whole) → slice_get nodes at ≡ Some node
      → is_ditavalref node.kind ≡ true → home.whole_at homes at ≡ Some whole → is_ref whole.0 ≡ true

-- a document is the one that the href of the element names at a node of the kind of ditavalrefs
pub record IsNamedByRef (homes : List (Option Whole)) (nodes : List PlanNode) (m : List ℕ) : Type 0 where
  pub at : ℕ
  pub node : PlanNode
  pub whole : Whole
  pub here : slice_get nodes at ≡ Some node
  pub kind : is_ditavalref node.kind ≡ true
  pub element : home.whole_at homes at ≡ Some whole
  pub named : IsTrue (is_among (targets_of whole.0) m)

-- each of some documents is one of a list, or was asked for before, or a ditavalref among nodes names it, whose elements
-- were told
pub record AreRefsSought (homes : List (Option Whole)) (nodes : List PlanNode) (names : List (List ℕ)) (ts : List Told)
    (some : List (List ℕ)) : Type 0 where
  pub each : (m : List ℕ) → IsTrue (is_among some m)
      → IsTrue (is_sought nothing names ts m) ⊎ (AreTold ts homes × IsNamedByRef homes nodes m)

-- questions, the newest first, each of which asked for such documents when it was put
abbrev pub AreRefsOnly : List (Option Whole) → List PlanNode → List (List ℕ) → (more old : List Told) → Type 0
AreRefsOnly homes nodes names [] old = Unit {0}
AreRefsOnly homes nodes names (t ∷ more) old =
    AreRefsSought homes nodes names (more ++ old) (documents_asked t) × AreRefsOnly homes nodes names more old

-- what a call tells that asks for these documents, for the DITAVALs that the ditavalrefs among nodes name, and for no
-- others: nothing that was told before is gone, and each document that is asked for is one of these, is named by the href
-- of the element of a node of the kind of ditavalrefs, or was asked for before
pub record AsksDitavals (homes : List (Option Whole)) (nodes : List PlanNode) (names : List (List ℕ))
    (old new : List Told) : Type 0 where
  pub is : ∥ ((more : List Told) × (new ≡ more ++ old) × AreRefsOnly homes nodes names more old) ∥₁

-- the elements of the nodes are those of a world, and were told
pub record AreGiven (told : List Told) (nodes : List PlanNode) (homes : List (Option Whole)) : Type 0 where
  pub world : World
  pub are : homes ≡ map (whole_at world) nodes
  pub given : AreTold told homes
