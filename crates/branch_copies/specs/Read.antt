-- What was read of the branches of all nodes (own): each as it is defined, and which of them each node has.
use Rattle.std.specs.Prelude.{◌≡◌, ◌+◌, ◌≤◌, ℕ, false, List, [], ◌∷◌, Some, drop, length, slice_get, take}
use Rattle.dita_doc.specs.declared.plan.PlanNode.{PlanNode}
use Rattle.ditaval_rules.specs.declared.rules.RulesRead.{RulesRead}
use Rattle.map_spec.specs.Branches as branches
use Rattle.map_spec.specs.Branches.{branch_faults, branches_of, is_ditavalref}
use Rattle.map_spec.specs.MapTree.{Head, MapTree, MapNode, NoNodes, count, node_of}
use Rattle.reader_spec.specs.World.{World}
use Rattle.branch_copies.specs.BranchRead.{name_of, place_of}
use Rattle.plan_nodes.specs.HomeDocs.{IsWithin}
use Rattle.branch_copies.specs.Ditavals.{rules_at}
use Rattle.branch_copies.specs.declared.branch.Branch.{Branch}
use Rattle.branch_copies.specs.declared.branches.Branches.{Branches}
use Rattle.branch_copies.specs.declared.branches.Span.{Span}

-- a branch was read as it is defined; its place is that of its ditavalref
pub record IsRead (read : List RulesRead) (nodes : List PlanNode) (branch : Branch) (defined : branches.Branch) : Type 0
  where
    pub parent : ℕ
    pub end : ℕ
    pub here : slice_get nodes branch.place ≡ Some (node_of defined.head parent end)
    pub within : IsWithin (length read) (place_of branch.filter)
    pub name : name_of branch.filter ≡ defined.filter.name
    pub rules : rules_at read (place_of branch.filter) ≡ defined.filter.rules
    pub resource : branch.resource ≡ defined.resource
    pub keyscope : branch.keyscope ≡ defined.keyscope

abbrev pub AreRead : List RulesRead → List PlanNode → List Branch → List branches.Branch → Type 0
AreRead read nodes [] [] = Unit {0}
AreRead read nodes (branch ∷ more) (defined ∷ others) =
    IsRead read nodes branch defined × AreRead read nodes more others
AreRead read nodes [] (defined ∷ others) = ⊥
AreRead read nodes (branch ∷ more) [] = ⊥

-- the branches of a span among all that are defined
abbrev pub branches_in : List branches.Branch → Span → List branches.Branch
branches_in defined span = take span.count (drop span.first defined)

-- the node at a place has the branches that are defined for it
pub record HasBranches (world : World) (spans : List Span) (defined : List branches.Branch) (at : ℕ) (head : Head)
    (below : MapTree) : Type 0 where
  pub span : Span
  pub here : slice_get spans at ≡ Some span
  pub fits : span.first + span.count ≤ length defined
  pub are : branches_in defined span ≡ branches_of world head below

-- so has each node of a tree whose first stands at this place; what is below a ditavalref is passed over
abbrev pub HaveBranches : World → List Span → List branches.Branch → ℕ → MapTree → Type 0
HaveBranches world spans defined at NoNodes = Unit {0}
HaveBranches world spans defined at (MapNode head below more) =
    (is_ditavalref head.kind ≡ false
    → HasBranches world spans defined at head below × HaveBranches world spans defined (at + 1) below)
    × HaveBranches world spans defined (at + 1 + count below) more

pub record AllRead (world : World) (read : List RulesRead) (nodes : List PlanNode) (tree : MapTree) (made : Branches)
    : Type 0 where
  pub defined : List branches.Branch
  pub are : AreRead read nodes made.branches.items defined
  pub have : HaveBranches world made.spans.items defined 0 tree
  pub faults : made.faults ≡ branch_faults world tree
