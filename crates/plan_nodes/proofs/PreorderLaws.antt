-- The nodes of a tree stand behind their parents.
use Rattle.std.specs.Prelude.{◌≡◌, ◌+◌, ◌<◌, ℕ, zero, suc, List, [], ◌∷◌, ◌++◌, Some, length, slice_get}
use Rattle.std.proofs.Common.{arith, subst}
use Rattle.dita_doc.specs.declared.plan.PlanNode.{PlanNode}
use Rattle.map_spec.specs.MapTree.{MapTree, MapNode, NoNodes, count, nodes_below, plan_nodes}
use Rattle.map_lemmas.proofs.TreeLaws.{length_below}
use Rattle.plan_nodes.specs.Preorder.{HasParentsBefore}

-- the first of these nodes stands at this place, and each behind its parent
abbrev AreBehind : ℕ → List PlanNode → Type 0
AreBehind place [] = Unit {0}
AreBehind place (node ∷ nodes) = (node.parent < place) × AreBehind (place + 1) nodes

behind_both : (place behind : ℕ) (nodes more : List PlanNode) → place + length nodes ≡ behind → AreBehind place nodes
    → AreBehind behind more → AreBehind place (nodes ++ more)
behind_both place behind [] more long first second =
    let same : behind ≡ place = omega arith in
    let Are : ℕ → Type 0 = λ at. AreBehind at more in
    subst Are same second
behind_both place behind (node ∷ nodes) more long first second =
    (first.0, behind_both (place + 1) behind nodes more (omega arith) first.1 second)

behind_at : (place at : ℕ) (nodes : List PlanNode) (node : PlanNode) → AreBehind place nodes
    → slice_get nodes at ≡ Some node → node.parent < place + at
behind_at place at [] node behind is = absurd (cc)
behind_at place zero (first ∷ nodes) node behind is =
    let same : first ≡ node = cc in
    let Is : PlanNode → Type 0 = λ one. one.parent < place + 0 in
    subst Is same (omega (arith, behind.0))
behind_at place (suc at) (first ∷ nodes) node behind is =
    let less = behind_at (place + 1) at nodes node behind.1 is in omega arith

behind_below : (tree : MapTree) (parent place : ℕ) → parent < place → AreBehind place (nodes_below parent place tree)
behind_below NoNodes parent place before = tt
behind_below (MapNode head below more) parent place before =
    let inner = nodes_below place (place + 1) below in
    let end = place + 1 + count below in
    let some = length_below place (place + 1) below in
    let long : place + 1 + length inner ≡ end = omega arith in (
      before,
      behind_both (place + 1) end inner (nodes_below parent end more) long
          (behind_below below place (place + 1) (omega arith)) (behind_below more parent end (omega arith)),
    )

tree_behind : (tree : MapTree) (at : ℕ) (node : PlanNode) → 0 < at → slice_get (plan_nodes tree) at ≡ Some node
    → node.parent < at
tree_behind NoNodes at node some is = absurd (cc)
tree_behind (MapNode head below more) zero node some is = absurd (omega arith)
tree_behind (MapNode head below more) (suc at) node some is =
    let inner = nodes_below 0 1 below in
    let end = 0 + 1 + count below in
    let count_is = length_below 0 1 below in
    let long : 1 + length inner ≡ end = omega arith in
    let behind = behind_both 1 end inner (nodes_below 0 end more) long
    (behind_below below 0 1 (omega arith)) (behind_below more 0 end (omega arith)) in
    let less = behind_at 1 at (inner ++ nodes_below 0 end more) node behind is in
    omega arith

-- so do those of a whole map
pub tree_has_parents : (tree : MapTree) → HasParentsBefore (plan_nodes tree)
tree_has_parents tree = λ at node some is. tree_behind tree at node some is
