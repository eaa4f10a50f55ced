-- How the copying goes on (own): what was made, with what is left, stays the same.
use Rattle.std.specs.Prelude.{◌≡◌, ◌+◌, ◌<◌, ◌≤◌, ℕ, false, List, Result, Ok, Err, Some, length, slice_get}
use Rattle.dita_doc.specs.declared.plan.PlanNode.{PlanNode}
use Rattle.dita_doc.specs.declared.plan.PlanStop.{PlanStop}
use Rattle.dita_doc.specs.declared.plan.PlanStop.TheVariants as stops
use Rattle.dita_doc.specs.declared.stop.Stop.{Stop}
use Rattle.dita_doc.specs.declared.stop.Stop.TheVariants.{Fault, NoMemory}
use Rattle.map_spec.specs.Branches.{Branch, branches_of, copied, copies, is_ditavalref, with_scope_names}
use Rattle.map_spec.specs.Included.{map_node_limit}
use Rattle.map_spec.specs.MapTree.{Head, MapTree, MapNode, NoNodes, count}
use Rattle.reader_spec.specs.World.{World}
use Rattle.branch_copies.specs.Chained.{shown}
use Rattle.branch_copies.specs.Leaves.{Leaves, around, copy_of}
use Rattle.branch_copies.specs.Read.{HaveBranches}
use Rattle.branch_copies.specs.Originals.{IsFirst, excludes_top_at}
use Rattle.branch_copies.specs.Stands.{StandsAt}
use Rattle.branch_copies.specs.Through.{excluded_by, through}
use Rattle.branch_copies.specs.declared.copying.Copying.{Copying}
use Rattle.branch_copies.specs.declared.node.Seen.{Seen}
use Rattle.branch_copies.specs.declared.node.Originals.{Originals}
use Rattle.branch_copies.specs.declared.work.Copies.{Copies}
use Rattle.branch_copies.specs.declared.work.Walk.{Walk}

abbrev pub chains_of : Copying → List (List ℕ)
chains_of x = shown x.chains.chains.items

-- if these nodes are made next, there is all in the end
pub record Going (world : World) (source : Originals) (defined : List Branch) (x : Copying) (made all : List PlanNode)
    : Type 0 where
  pub few : length x.made.items ≤ map_node_limit
  pub leaves : Leaves world source defined (chains_of x) x.left.items made all

-- a stop that is told only where there is too much
abbrev pub IsOver : Stop PlanStop → List PlanNode → Type 0
IsOver (Fault stop) all = (stop ≡ stops.TooManyNodes) × (map_node_limit < length all)
IsOver NoMemory all = Unit {0}

-- what there is in the end is all, or all is too much
abbrev pub Goes : {A : Type 0} → World → Originals → List Branch → Result A (Stop PlanStop) → Copying → List PlanNode
    → Type 0
Goes world source defined (Ok value) x all = Going world source defined x x.made.items all
Goes world source defined (Err stop) x all = IsOver stop all

-- there is no room for a node
abbrev pub HasNoRoom : Stop PlanStop → ℕ → Type 0
HasNoRoom (Fault stop) count = (stop ≡ stops.TooManyNodes) × (map_node_limit ≤ count)
HasNoRoom NoMemory count = Unit {0}

-- the first node of a walk is copied next, which no branch around it excludes
pub record IsNext (world : World) (source : Originals) (defined : List Branch) (x : Copying) (walk : Walk) (seen : Seen)
    (head : Head) (below : MapTree) : Type 0 where
  pub first : IsFirst world source defined walk.at seen head below
  pub other : is_ditavalref head.kind ≡ false
  pub chain : walk.chain < length (chains_of x)
  pub stays : excluded_by world (around defined (chains_of x) walk.chain) head ≡ false

-- its copies
abbrev pub first_copied : World → List Branch → Copying → Walk → Head → MapTree → MapTree
first_copied world defined x walk head below = through world (around defined (chains_of x) walk.chain)
    (copies world (with_scope_names world head below) (copied world below) (branches_of world head below))

-- the copies of it for its branches, below this node
abbrev pub copies_left : Walk → Seen → ℕ → Copies
copies_left walk seen parent = record {
  at = walk.at;
  end = seen.end;
  branch = seen.span.first;
  count = seen.span.count;
  parent = parent;
  chain = walk.chain;
}

-- the next of some copies is made next, which no branch excludes
pub record IsTop (world : World) (source : Originals) (defined : List Branch) (x : Copying) (next : Copies)
    (head : Head) (below : MapTree) (branch : Branch) : Type 0 where
  pub above : ℕ
  pub stands : StandsAt source.nodes.now above next.at (MapNode head below NoNodes)
  pub have : HaveBranches world source.spans.now defined (next.at + 1) below
  pub ends : next.at + 1 + count below ≡ next.end
  pub here : slice_get defined next.branch ≡ Some branch
  pub chain : next.chain < length (chains_of x)
  pub stays : excluded_by world (around defined (chains_of x) next.chain) head ≡ false
  pub top : excludes_top_at source next.at next.branch ≡ false

abbrev pub top_copied : World → List Branch → Copying → Copies → Head → MapTree → Branch → MapTree
top_copied world defined x next head below branch = through world (around defined (chains_of x) next.chain)
    (copy_of world (with_scope_names world head below) (copied world below) branch)
