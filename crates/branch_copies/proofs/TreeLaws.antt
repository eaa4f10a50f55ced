-- Trees that are put behind what was made.
use Rattle.std.specs.Prelude.{◌≡◌, ◌+◌, ◌++◌, ℕ, suc, List, [], ◌∷◌, length, map}
use Rattle.std.proofs.Common.{refl, sym, ap, ◌∙◌, arith, append_assoc, append-nil, length-append}
use Rattle.dita_doc.specs.declared.plan.PlanNode.{PlanNode}
use Rattle.map_spec.specs.MapTree.{Head, MapTree, NoNodes, MapNode, count, node_of, nodes_below, trees_beside}
use Rattle.map_lemmas.proofs.TreeLaws.{below_beside, length_below}
use Rattle.plan_nodes.specs.Preorder.{without_end}
use Rattle.branch_copies.specs.Leaves.{put}

pub length_without : (nodes : List PlanNode) → length (map without_end nodes) ≡ length nodes
length_without [] = refl
length_without (node ∷ nodes) = ap suc (length_without nodes)

without_both : (nodes more : List PlanNode)
    → map without_end (nodes ++ more) ≡ map without_end nodes ++ map without_end more
without_both [] more = refl
without_both (node ∷ nodes) more = ap (λ others. without_end node ∷ others) (without_both nodes more)

pub length_put : (parent : ℕ) (tree : MapTree) (made : List PlanNode)
    → length (put parent tree made) ≡ length made + count tree
length_put parent tree made = omega (
  arith,
  length-append made (map without_end (nodes_below parent (length made) tree)),
  length_without (nodes_below parent (length made) tree),
  length_below parent (length made) tree,
)

pub put_none : (parent : ℕ) (made : List PlanNode) → put parent NoNodes made ≡ made
put_none parent made = append-nil made

pub put_beside : (parent : ℕ) (first second : MapTree) (made : List PlanNode)
    → put parent (trees_beside first second) made ≡ put parent second (put parent first made)
put_beside parent first second made =
    let place = length made in
    let front = nodes_below parent place first in
    ap (λ nodes. made ++ map without_end nodes) (below_beside parent place first second)
    ∙ ap (λ nodes. made ++ nodes) (without_both front (nodes_below parent (place + count first) second))
    ∙ sym (append_assoc made (map without_end front) (map without_end (nodes_below parent
    (place + count first) second)))
    ∙ ap (λ n. put parent first made ++ map without_end (nodes_below parent n second))
    (sym (length_put parent first made))

-- a node, and those below it behind it
pub put_node : (parent : ℕ) (head : Head) (below : MapTree) (made : List PlanNode)
    → put parent (MapNode head below NoNodes) made
    ≡ put (length made) below (made ++ node_of head parent 0 ∷ [])
put_node parent head below made =
    let place = length made in
    let node = node_of head parent 0 in
    let there : length (made ++ node ∷ []) ≡ place + 1 = omega (arith, length-append made (node ∷ [])) in
    ap (λ nodes. made ++ node ∷ map without_end nodes) (append-nil (nodes_below place (place + 1) below))
    ∙ ap (λ n. made ++ node ∷ map without_end (nodes_below place n below)) (sym there)
    ∙ sym (append_assoc made (node ∷ []) (map without_end (nodes_below place (length (made ++ node ∷ [])) below)))
