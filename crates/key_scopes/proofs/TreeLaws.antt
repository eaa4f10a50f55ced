-- The parents of a tree's nodes: each stands on the way up from the node before.
use Rattle.std.specs.Prelude.{◌≡◌, ◌+◌, ◌-◌, ◌<◌, ◌==◌, ◌⊎◌, ℕ, true, false, nat_lt, zero, suc, List, [], ◌∷◌, ◌++◌, Some, length, map, slice_get}
use Rattle.std.proofs.Common.{refl, sym, ap, subst, ◌∙◌, arith, inl, inr, length-append}
use Rattle.std.proofs.lemmas.Bool.{cases_Bool, eqb-true}
use Rattle.std.proofs.lemmas.Bool.Decides.{nat_tests}
use Rattle.std.proofs.lemmas.List.{length-map, map-append}
use Rattle.dita_doc.specs.declared.plan.PlanNode.{PlanNode}
use Rattle.key_scopes.specs.Above.{AreInPreorder, IsAbove, end_at}
use Rattle.key_scopes.proofs.AboveLaws.{above_both, above_one, above_self, end_left, end_right}
use Rattle.map_spec.specs.MapTree.{Head, MapTree, MapNode, NoNodes, count, nodes_below, plan_nodes}
use Rattle.map_lemmas.proofs.TreeLaws.{length_below}
use Rattle.plan_nodes.proofs.PreorderLaws.{tree_has_parents}
use Rattle.plan_nodes.specs.Preorder.{HasOneRoot, HasParentsBefore, IsTree, shape}

-- Nodes that stand as those of a tree stand behind their parents

shape_at : (nodes others : List PlanNode) (at : ℕ) (node : PlanNode) → map shape nodes ≡ map shape others
    → slice_get nodes at ≡ Some node → (other : PlanNode) × (slice_get others at ≡ Some other) ×
    (other.parent ≡ node.parent)
shape_at [] others at node same is = absurd (cc)
shape_at (first ∷ nodes) [] at node same is = absurd (cc)
shape_at (first ∷ nodes) (other ∷ others) zero node same is =
    let here : first ≡ node = cc in
    let one : shape first ≡ shape other = cc in
    (other, refl, sym (ap (λ (both : ℕ × ℕ). both.0) one) ∙ ap (λ (n : PlanNode). n.parent) here)
shape_at (first ∷ nodes) (other ∷ others) (suc at) node same is =
    let rest : map shape nodes ≡ map shape others = cc in shape_at nodes others at node rest is

pub tree_parents : (nodes : List PlanNode) → IsTree nodes → HasParentsBefore nodes
tree_parents nodes tree = λ at node above is.
    let found = shape_at nodes (plan_nodes tree.tree) at node tree.is is in
    let less = tree_has_parents tree.tree at found.0 above found.1 in
    omega (arith, found.2, less)

abbrev pub parents : List PlanNode → List ℕ
parents nodes = map (λ (node : PlanNode). node.parent) nodes

abbrev pub parent_at : List PlanNode → ℕ → ℕ
parent_at nodes at = end_at (parents nodes) at

-- the numbers from this place on
abbrev Agree : (ℕ → ℕ) → ℕ → List ℕ → Type 0
Agree parent place numbers = (i : ℕ) → i < length numbers → parent (place + i) ≡ end_at numbers i

module _ (parent : ℕ → ℕ) where
  agree_left : (place : ℕ) (first second : List ℕ) → Agree parent place (first ++ second) → Agree parent place first
  agree_left place first second all = λ i within.
      all i (omega (arith, length-append first second)) ∙ end_left first second i within

  agree_right : (place : ℕ) (first second : List ℕ) → Agree parent place (first ++ second)
      → Agree parent (place + length first) second
  agree_right place first second all = λ i within.
      let same : place + length first + i ≡ place + (length first + i) = omega arith in
      ap parent same ∙ all (length first + i) (omega (arith, length-append first second)) ∙ end_right first second i

  agree_tail : (place x : ℕ) (rest : List ℕ) → Agree parent place (x ∷ rest) → Agree parent (place + 1) rest
  agree_tail place x rest all = λ i within.
      let same : place + 1 + i ≡ place + suc i = omega arith in
      ap parent same ∙ all (suc i) (omega arith)

  abbrev AllAbove : ℕ → ℕ → Type 0
  AllAbove before some = (at : ℕ) → before < at → at < before + 1 + some → IsAbove parent (parent at) (at - 1)

  record Parts (around before : ℕ) (head : Head) (below more : MapTree) : Type 0 where
    here : parent (before + 1) ≡ around
    first : Agree parent (before + 1 + 1) (parents (nodes_below (before + 1) (before + 1 + 1) below))
    second : Agree parent (before + 1 + count below + 1)
        (parents (nodes_below around (before + 1 + count below + 1) more))

  parts : (around before : ℕ) (head : Head) (below more : MapTree)
      → Agree parent (before + 1) (parents (nodes_below around (before + 1) (MapNode head below more)))
      → Parts around before head below more
  parts around before head below more all =
      let place = before + 1 in
      let inner = nodes_below place (place + 1) below in
      let end = place + 1 + count below in
      let outer = nodes_below around end more in
      let long : place + 1 + length (parents inner) ≡ end =
      omega (arith, length-map inner (λ (node : PlanNode). node.parent), length_below place (place + 1) below) in
      let same_end : end ≡ place + count below + 1 = omega arith in
      let zero_place : place ≡ place + 0 = omega arith in
      let rest : Agree parent (place + 1) (parents (inner ++ outer)) = agree_tail place around
      (parents (inner ++ outer)) all in
      let both : Agree parent (place + 1) (parents inner ++ parents outer) =
      subst (Agree parent (place + 1)) (map-append (λ (node : PlanNode). node.parent) inner outer) rest in
      record {
        here = ap parent zero_place ∙ all 0 (omega arith);
        first = agree_left (place + 1) (parents inner) (parents outer) both;
        second = subst (λ n. Agree parent n (parents (nodes_below around n more))) same_end
            (subst (λ n. Agree parent n (parents outer)) long
            (agree_right (place + 1) (parents inner) (parents outer) both));
      }

  -- the last node of some stands below what is around them
  last_above : (tree : MapTree) (around before : ℕ)
      → Agree parent (before + 1) (parents (nodes_below around (before + 1) tree)) → IsAbove parent around before
      → IsAbove parent around (before + count tree)
  last_above NoNodes around before all above =
      let same : before ≡ before + 0 = omega arith in subst (IsAbove parent around) same above
  last_above (MapNode head below more) around before all above =
      let place = before + 1 in
      let cut = parts around before head below more all in
      let inside = last_above below place place cut.first (above_self parent place) in
      let one : IsAbove parent around place = subst (λ n. IsAbove parent n place) cut.here (above_one parent place) in
      let beside = last_above more around (place + count below) cut.second
      (above_both parent around place (place + count below) one inside) in
      let same : place + count below + count more ≡ before + count (MapNode head below more) = omega arith in
      subst (IsAbove parent around) same beside

  all_above : (tree : MapTree) (around before : ℕ)
      → Agree parent (before + 1) (parents (nodes_below around (before + 1) tree)) → IsAbove parent around before
      → AllAbove before (count tree)
  all_above NoNodes around before all above = λ at low high. absurd (omega arith)
  all_above (MapNode head below more) around before all above =
      let place = before + 1 in
      let cut = parts around before head below more all in
      let inside = last_above below place place cut.first (above_self parent place) in
      let one : IsAbove parent around place = subst (λ n. IsAbove parent n place) cut.here (above_one parent place) in
      let to_last = above_both parent around place (place + count below) one inside in
      by_place cut.here above (all_above below place place cut.first (above_self parent place))
      (all_above more around (place + count below) cut.second to_last)
    where
      by_place : parent (before + 1) ≡ around → IsAbove parent around before → AllAbove (before + 1) (count below)
          → AllAbove (before + 1 + count below) (count more) → AllAbove before (count (MapNode head below more))
      by_place here above first second = λ at low high. by_three at low high (cases_Bool (at == before + 1))
          (cases_Bool (nat_lt at (before + 1 + count below + 1)))
        where
          by_three : (at : ℕ) → before < at → at < before + 1 + count (MapNode head below more)
              → ((at == before + 1) ≡ true) ⊎ ((at == before + 1) ≡ false)
              → (nat_lt at (before + 1 + count below + 1) ≡ true) ⊎ (nat_lt at (before + 1 + count below + 1) ≡ false)
              → IsAbove parent (parent at) (at - 1)
          by_three at low high (inl same) b =
              let is = eqb-true at (before + 1) same in
              let one : before ≡ before + 1 - 1 = omega arith in
              subst (λ n. IsAbove parent (parent n) (n - 1)) (sym is)
              (subst (λ n. IsAbove parent n (before + 1 - 1)) (sym here) (subst (IsAbove parent around) one above))
          by_three at low high (inr other) (inl inside) =
              let less : at < before + 1 + count below + 1 = grind (arith, nat_tests) in
              let more_than : before + 1 < at = grind (arith, nat_tests) in
              first at more_than (omega arith)
          by_three at low high (inr other) (inr behind) =
              let more_than : before + 1 + count below < at = grind (arith, nat_tests) in
              second at more_than (omega arith)

-- those of a tree with one root
tree_above : (tree : MapTree) → HasOneRoot tree → (at : ℕ) → 0 < at → at < length (plan_nodes tree)
    → IsAbove (parent_at (plan_nodes tree)) (parent_at (plan_nodes tree) at) (at - 1)
tree_above NoNodes one at above within = absurd (omega arith)
tree_above (MapNode head below more) one at above within =
    let nodes = plan_nodes (MapNode head below more) in
    let parent = parent_at nodes in
    let inner = nodes_below 0 1 below in
    let outer = nodes_below 0 (0 + 1 + count below) more in
    let rest : Agree parent 1 (parents (inner ++ outer)) = λ i within. ap parent (one_more i) in
    let both : Agree parent 1 (parents inner ++ parents outer) =
    subst (Agree parent 1) (map-append (λ (node : PlanNode). node.parent) inner outer) rest in
    let long : length nodes ≡ 1 + count below = omega
    (arith, length-append inner outer, length_below 0 1 below, no_more more one) in
    all_above parent below 0 0 (agree_left parent 1 (parents inner) (parents outer) both) (above_self parent 0) at above
    (omega arith)
  where
    one_more : (i : ℕ) → 1 + i ≡ suc i
    one_more i = omega arith

    no_more : (some : MapTree) → some ≡ NoNodes → length (nodes_below 0 (0 + 1 + count below) some) ≡ 0
    no_more some is = rw is refl

same_parents : (nodes others : List PlanNode) → map shape nodes ≡ map shape others → parents nodes ≡ parents others
same_parents [] [] same = refl
same_parents [] (other ∷ others) same = absurd (cc)
same_parents (node ∷ nodes) [] same = absurd (cc)
same_parents (node ∷ nodes) (other ∷ others) same =
    let one : shape node ≡ shape other = cc in
    let rest : map shape nodes ≡ map shape others = cc in
    ap (λ (both : ℕ × ℕ). both.0 ∷ parents nodes) one
    ∙ ap (λ some. other.parent ∷ some) (same_parents nodes others rest)

root_zero : (tree : MapTree) → parent_at (plan_nodes tree) 0 ≡ 0
root_zero NoNodes = refl
root_zero (MapNode head below more) = refl

pub node_there : (nodes : List PlanNode) (at : ℕ) → at < length nodes
    → (node : PlanNode) × (slice_get nodes at ≡ Some node) × (parent_at nodes at ≡ node.parent)
node_there [] at within = absurd (omega arith)
node_there (node ∷ nodes) zero within = (node, refl, refl)
node_there (node ∷ nodes) (suc at) within = node_there nodes at (omega arith)

pub tree_ordered : (nodes : List PlanNode) → IsTree nodes → AreInPreorder (parent_at nodes) (length nodes)
tree_ordered nodes tree =
    let others = plan_nodes tree.tree in
    let same = same_parents nodes others tree.is in
    let long : length nodes ≡ length others =
    sym (length-map nodes (λ (node : PlanNode). node.parent)) ∙ ap length same
    ∙ length-map others (λ (node : PlanNode). node.parent) in
    record {
      root = ap (λ all. end_at all 0) same ∙ root_zero tree.tree;
      before = λ at above within. let found = node_there nodes at within in
          let less = tree_parents nodes tree at found.0 above found.1 in omega (arith, found.2, less);
      above = λ at above within.
          subst (λ all. IsAbove (end_at all) (end_at all at) (at - 1)) (sym same)
          (tree_above tree.tree tree.one at above (omega arith));
    }
