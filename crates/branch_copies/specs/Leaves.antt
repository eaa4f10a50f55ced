-- What the work that is left still makes (own): each work a tree, below its node and behind what was made before. The
-- last work is done first.
use Rattle.std.specs.Prelude.{◌≡◌, ◌+◌, ◌<◌, ◌≤◌, ◌++◌, ℕ, false, List, [], ◌∷◌, drop, length, map, slice_get, take, unwrap_or, if◌then◌else◌}
use Rattle.std.specs.Option.{option_to_list}
use Rattle.dita_doc.specs.declared.plan.PlanNode.{PlanNode}
use Rattle.map_spec.specs.Branches.{Branch, all_beside, copied, copy_for, group_for, is_map_node, with_scope_names}
use Rattle.map_spec.specs.MapTree.{Head, MapTree, MapNode, NoNodes, count, nodes_below}
use Rattle.plan_nodes.specs.Preorder.{without_end}
use Rattle.reader_spec.specs.World.{World}
use Rattle.branch_copies.specs.Read.{HaveBranches}
use Rattle.branch_copies.specs.Stands.{StandsAt}
use Rattle.branch_copies.specs.Through.{excluded_by, through}
use Rattle.branch_copies.specs.declared.node.Originals.{Originals}
use Rattle.branch_copies.specs.declared.work.Copies.{Copies}
use Rattle.branch_copies.specs.declared.work.Walk.{Walk}
use Rattle.branch_copies.specs.declared.work.Work.{Work}
use Rattle.branch_copies.specs.declared.work.Work.TheVariants as works

-- a tree behind what was made, below the node at this place; its ends are not known yet
abbrev pub put : ℕ → MapTree → List PlanNode → List PlanNode
put parent tree made = made ++ map without_end (nodes_below parent (length made) tree)

-- the branches of the chain at a place
abbrev pub chosen : List Branch → List ℕ → List Branch
chosen defined [] = []
chosen defined (at ∷ chain) = option_to_list (slice_get defined at) ++ chosen defined chain

abbrev pub chain_in : List (List ℕ) → ℕ → List ℕ
chain_in chains at = unwrap_or (slice_get chains at) []

abbrev pub around : List Branch → List (List ℕ) → ℕ → List Branch
around defined chains at = chosen defined (chain_in chains at)

-- a walk makes the copies of the nodes that it is over, within the branches around it
pub record WalkMakes (world : World) (source : Originals) (defined : List Branch) (chains : List (List ℕ)) (walk : Walk)
    (tree : MapTree) : Type 0 where
  pub above : ℕ
  pub original : MapTree
  pub stands : StandsAt source.nodes.now above walk.at original
  pub have : HaveBranches world source.spans.now defined walk.at original
  pub ends : walk.at + count original ≡ walk.end
  pub chain : walk.chain < length chains
  pub is : tree ≡ through world (around defined chains walk.chain) (copied world original)

abbrev pub copy_of : World → Head → MapTree → Branch → MapTree
copy_of world head below branch =
    if is_map_node head.kind then group_for world head below branch else copy_for world head below branch

-- the copies of a node, of which those below it are copied, for these branches
abbrev pub copies_of : World → Head → MapTree → List Branch → MapTree
copies_of world head below branches =
    all_beside (map (copy_of world (with_scope_names world head below) (copied world below)) branches)

pub record CopiesMake (world : World) (source : Originals) (defined : List Branch) (chains : List (List ℕ))
    (copies : Copies) (tree : MapTree) : Type 0 where
  pub above : ℕ
  pub head : Head
  pub below : MapTree
  pub stands : StandsAt source.nodes.now above copies.at (MapNode head below NoNodes)
  pub have : HaveBranches world source.spans.now defined (copies.at + 1) below
  pub ends : copies.at + 1 + count below ≡ copies.end
  pub fits : copies.branch + copies.count ≤ length defined
  pub chain : copies.chain < length chains
  pub stays : excluded_by world (around defined chains copies.chain) head ≡ false
  pub is : tree ≡ through world (around defined chains copies.chain)
      (copies_of world head below (take copies.count (drop copies.branch defined)))

abbrev pub WorkMakes : World → Originals → List Branch → List (List ℕ) → Work → MapTree → Type 0
WorkMakes world source defined chains (works.Walk walk) tree = WalkMakes world source defined chains walk tree
WorkMakes world source defined chains (works.Copies copies) tree = CopiesMake world source defined chains copies tree

abbrev pub parent_of : Work → ℕ
parent_of (works.Walk walk) = walk.parent
parent_of (works.Copies copies) = copies.parent

-- with what these works make behind what was made, there is all
abbrev pub Leaves : World → Originals → List Branch → List (List ℕ) → List Work → List PlanNode → List PlanNode → Type 0
Leaves world source defined chains [] made all = made ≡ all
Leaves world source defined chains (work ∷ works) made all = (between : List PlanNode) × (tree : MapTree)
    × Leaves world source defined chains works made between × WorkMakes world source defined chains work tree
    × (put (parent_of work) tree between ≡ all)
