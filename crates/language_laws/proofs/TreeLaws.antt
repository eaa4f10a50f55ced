-- The nodes of a tree as a list: where their parents stand, and where they end.
use Rattle.std.specs.Prelude.{◌≡◌, ◌+◌, ◌-◌, ◌<◌, ◌≤◌, ℕ, zero, suc, List, [], ◌++◌, Some, IfSome, length, slice_get}
use Rattle.std.proofs.Common.{refl, sym, ◌∙◌, subst, arith, append-nil}
use Rattle.dita_doc.specs.declared.plan.PlanNode.{PlanNode}
use Rattle.map_spec.specs.MapTree.{Head, MapTree, NoNodes, MapNode, count, node_of, nodes_below, plan_nodes}
use Rattle.map_lemmas.proofs.TreeLaws.{length_below}
use Rattle.language_laws.specs.PlanTree.{IsPlanTree, StandsBelow}
use Rattle.language_laws.proofs.ListLaws.{AllFrom, Stands, at_place, of_both, of_front, of_back, weaker, stands_itself, where_it_stands}

-- of the nodes below one, and of those behind it
pub node_with : (P : ℕ → PlanNode → Type 0) (parent place : ℕ) (below more : MapTree)
    → AllFrom P (place + 1) (nodes_below place (place + 1) below)
    → AllFrom P (place + 1 + count below) (nodes_below parent (place + 1 + count below) more)
    → AllFrom P (place + 1)
    (nodes_below place (place + 1) below ++ nodes_below parent (place + 1 + count below) more)
node_with P parent place below more inside behind =
    let others = nodes_below parent (place + 1 + count below) more in
    of_both P (place + 1) (nodes_below place (place + 1) below) others inside
    (subst (λ n. AllFrom P (place + 1 + n) others) (sym (length_below place (place + 1) below)) behind)

-- of the nodes behind one, from all
node_behind : (P : ℕ → PlanNode → Type 0) (parent place : ℕ) (below more : MapTree)
    → AllFrom P (place + 1)
    (nodes_below place (place + 1) below ++ nodes_below parent (place + 1 + count below) more)
    → AllFrom P (place + 1 + count below) (nodes_below parent (place + 1 + count below) more)
node_behind P parent place below more all =
    let others = nodes_below parent (place + 1 + count below) more in
    subst (λ n. AllFrom P (place + 1 + n) others) (length_below place (place + 1) below)
    (of_back P (place + 1) (nodes_below place (place + 1) below) others all)

-- a node's parent stands before it, and not before `parent`; its end is behind it, and not behind `last`
record Spans (parent last at : ℕ) (node : PlanNode) : Type 0 where
  pub from : parent ≤ node.parent
  pub before : node.parent < at
  pub own : at < node.end
  pub within : node.end ≤ last

-- each node of a tree does, between its parent and its end
span_nodes : (parent place last : ℕ) (tree : MapTree) → parent < place → place + count tree ≤ last
    → AllFrom (Spans parent last) place (nodes_below parent place tree)
span_nodes parent place last NoNodes before fits = tt
span_nodes parent place last (MapNode head below more) before fits =
    let end = place + 1 + count below in
    let inside = span_nodes place (place + 1) last below (omega arith) (omega arith) in
    let behind = span_nodes parent end last more (omega arith) (omega arith) in (
      record { from = omega arith; before = before; own = omega arith; within = omega arith },
      node_with (Spans parent last) parent place below more
          (weaker (Spans place last) (Spans parent last) (place + 1) (nodes_below place (place + 1) below)
          (λ at node span. record {
            from = omega (arith, span.from);
            before = span.before;
            own = span.own;
            within = span.within;
          }) inside) behind,
    )

-- a node ends where its parent ends, or before
abbrev EndsWithin : List PlanNode → ℕ → PlanNode → Type 0
EndsWithin all at node = IfSome (slice_get all node.parent) (λ parent. node.end ≤ parent.end)

-- where its parent is known
within_by : (all : List PlanNode) (at : ℕ) (node parent : PlanNode) → slice_get all node.parent ≡ Some parent
    → node.end ≤ parent.end → EndsWithin all at node
within_by all at node parent is within =
    subst (λ found. IfSome found (λ parent. node.end ≤ parent.end)) (sym is) within

-- each node of a tree does
end_nodes : (all : List PlanNode) (parent place : ℕ) (above : PlanNode) (tree : MapTree)
    → AllFrom (Stands all) place (nodes_below parent place tree) → slice_get all parent ≡ Some above
    → place + count tree ≤ above.end → AllFrom (EndsWithin all) place (nodes_below parent place tree)
end_nodes all parent place above NoNodes stand is fits = tt
end_nodes all parent place above (MapNode head below more) stand is fits =
    let end = place + 1 + count below in
    let node = node_of head parent end in
    let nodes = nodes_below place (place + 1) below in
    let inside = end_nodes all place (place + 1) node below
    (of_front (Stands all) (place + 1) nodes (nodes_below parent end more) stand.1) stand.0 (omega arith) in
    let others = node_behind (Stands all) parent place below more stand.1 in
    let behind = end_nodes all parent end above more others is (omega arith) in (
      within_by all place node above is (omega arith),
      node_with (EndsWithin all) parent place below more inside behind,
    )

-- each node between a node and its end stands below it
abbrev HoldsAll : List PlanNode → ℕ → PlanNode → Type 0
HoldsAll all at node = (other : ℕ) (inside : PlanNode) → at < other → other < node.end
    → slice_get all other ≡ Some inside → at ≤ inside.parent

-- the nodes below one stand below it
hold_inside : (all : List PlanNode) (place : ℕ) (below : MapTree)
    → AllFrom (Stands all) (place + 1) (nodes_below place (place + 1) below)
    → (other : ℕ) (inside : PlanNode) → place < other → other < place + 1 + count below
    → slice_get all other ≡ Some inside → place ≤ inside.parent
hold_inside all place below stand other inside after before is =
    let nodes = nodes_below place (place + 1) below in
    let last = place + 1 + count below in
    let k = other - (place + 1) in
    let there : other ≡ place + 1 + k = omega arith in
    let few : k < length nodes = omega (arith, length_below place (place + 1) below) in
    (where_it_stands (Spans place last) all (place + 1) nodes stand
    (span_nodes place (place + 1) last below (omega arith) (omega arith)) k inside few
    (subst (λ at. slice_get all at ≡ Some inside) there is)).from

-- so it is at each node of a tree
hold_nodes : (all : List PlanNode) (parent place : ℕ) (tree : MapTree)
    → AllFrom (Stands all) place (nodes_below parent place tree)
    → AllFrom (HoldsAll all) place (nodes_below parent place tree)
hold_nodes all parent place NoNodes stand = tt
hold_nodes all parent place (MapNode head below more) stand =
    let end = place + 1 + count below in
    let within = of_front (Stands all) (place + 1) (nodes_below place (place + 1) below)
    (nodes_below parent end more) stand.1 in (
      hold_inside all place below within,
      node_with (HoldsAll all) parent place below more (hold_nodes all place (place + 1) below within)
          (hold_nodes all parent end more (node_behind (Stands all) parent place below more stand.1)),
    )

-- The whole

module _ (head : Head) (below : MapTree) where
  -- the root ends at the end
  root_length : length (plan_nodes (MapNode head below NoNodes)) ≡ 0 + 1 + count below
  root_length = length_below 0 0 (MapNode head below NoNodes) ∙ omega arith

  -- where each other node stands
  stands_below : (at : ℕ) (node : PlanNode) → 0 < at
      → slice_get (plan_nodes (MapNode head below NoNodes)) at ≡ Some node
      → StandsBelow (plan_nodes (MapNode head below NoNodes)) at node
  stands_below zero node after is = absurd (omega arith)
  stands_below (suc k) node after is =
      let all = plan_nodes (MapNode head below NoNodes) in
      let last = 0 + 1 + count below in
      let nodes = nodes_below 0 1 below in
      let same : nodes ++ [] ≡ nodes = append-nil nodes in
      let found : slice_get nodes k ≡ Some node = subst (λ xs. slice_get xs k ≡ Some node) same is in
      let stand = of_front (Stands all) 1 nodes [] (stands_itself all).1 in
      let there : 1 + k ≡ suc k = omega arith in
      let span = subst (λ at. Spans 0 last at node) there
      (at_place (Spans 0 last) 1 nodes (span_nodes 0 1 last below (omega arith) (omega arith)) k node found) in
      record {
        parent = span.before;
        own = span.own;
        within = at_place (EndsWithin all) 1 nodes
            (end_nodes all 0 1 (node_of head 0 last) below stand refl (omega arith)) k node found;
      }

  -- the nodes of one node with others below it are a tree
  pub root_tree : IsPlanTree (plan_nodes (MapNode head below NoNodes))
  root_tree =
      let all = plan_nodes (MapNode head below NoNodes) in
      let holds = hold_nodes all 0 0 (MapNode head below NoNodes) (stands_itself all) in
      record {
        any = omega arith;
        first = (refl, sym root_length);
        each = stands_below;
        below = λ at node is. let there : 0 + at ≡ at = omega arith in
            subst (λ place. HoldsAll all place node) there (at_place (HoldsAll all) 0 all holds at node is);
      }
