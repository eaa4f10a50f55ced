-- What holds of the nodes of a tree holds of its heads.
use Rattle.std.specs.Prelude.{◌≡◌, ◌+◌, ◌++◌, ℕ, zero, suc, List, [], ◌∷◌, Some, slice_get}
use Rattle.std.specs.List.{AllByRecursion}
use Rattle.std.proofs.Common.{refl}
use Rattle.dita_doc.specs.declared.plan.PlanNode.{PlanNode}
use Rattle.map_spec.specs.MapTree.{Head, MapTree, MapNode, NoNodes, count, node_of, nodes_below}
use Rattle.map_lemmas.proofs.HeadLaws.{AllHeads}

module _ (Q : PlanNode → Type 0) where
  -- of the nodes before others
  each_first : (nodes more : List PlanNode) → AllByRecursion Q (nodes ++ more) → AllByRecursion Q nodes
  each_first [] more all = tt
  each_first (node ∷ nodes) more all = (all.0, each_first nodes more all.1)

  -- and of those behind
  each_second : (nodes more : List PlanNode) → AllByRecursion Q (nodes ++ more) → AllByRecursion Q more
  each_second [] more all = all
  each_second (node ∷ nodes) more all = each_second nodes more all.1

  -- of the node at each place
  pub each_by_place : (nodes : List PlanNode)
      → ((at : ℕ) (node : PlanNode) → slice_get nodes at ≡ Some node → Q node) → AllByRecursion Q nodes
  each_by_place [] is = tt
  each_by_place (node ∷ nodes) is =
      (is zero node refl, each_by_place nodes (λ at other there. is (suc at) other there))

module _ (P : Head → Type 0) (Q : PlanNode → Type 0)
    (gives : (head : Head) (parent end : ℕ) → Q (node_of head parent end) → P head) where
  -- of each head, if it holds of its node
  pub heads_of : (tree : MapTree) (parent place : ℕ) → AllByRecursion Q (nodes_below parent place tree)
      → AllHeads P tree
  heads_of NoNodes parent place all = tt
  heads_of (MapNode head below more) parent place all =
      let end = place + 1 + count below in
      let inner = nodes_below place (place + 1) below in
      let behind = nodes_below parent end more in (
        gives head parent end all.0,
        heads_of below place (place + 1) (each_first Q inner behind all.1),
        heads_of more parent end (each_second Q inner behind all.1),
      )
