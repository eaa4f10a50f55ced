-- What holds of each head of a tree.
use Rattle.std.specs.Prelude.{◌≡◌, ◌+◌, ◌++◌, ℕ, zero, suc, Bool, true, false, List, [], ◌∷◌, Some, map, slice_get, if◌then◌else◌}
use Rattle.std.specs.List.{AllByRecursion}
use Rattle.std.proofs.Common.{refl, subst}
use Rattle.dita_doc.specs.declared.content.Rule.{Rule}
use Rattle.dita_doc.specs.declared.plan.PlanNode.{PlanNode}
use Rattle.map_spec.specs.Branches.{all_beside}
use Rattle.map_spec.specs.Judged.{filtered, is_excluded, judged}
use Rattle.map_spec.specs.MapTree.{Grown, Head, MapTree, NoNodes, MapNode, beside, count, node_of, nodes_below, trees_beside}
use Rattle.reader_spec.specs.World.{World}

-- P holds of each head
abbrev pub AllHeads : (Head → Type 0) → MapTree → Type 0
AllHeads P NoNodes = Unit {0}
AllHeads P (MapNode head below more) = P head × AllHeads P below × AllHeads P more

module _ (P : Head → Type 0) where
  -- of trees side by side
  pub heads_beside : (tree others : MapTree) → AllHeads P tree → AllHeads P others
      → AllHeads P (trees_beside tree others)
  heads_beside NoNodes others first second = second
  heads_beside (MapNode head below more) others first second =
      (first.0, first.1, heads_beside more others first.2 second)

  -- of one of two trees
  pub heads_by_test : (b : Bool) (tree other : Grown) → AllHeads P tree.tree → AllHeads P other.tree
      → AllHeads P (if b then tree else other).tree
  heads_by_test true tree other first second = first
  heads_by_test false tree other first second = second

  -- of a tree, unless a test fails it
  pub heads_unless : (b : Bool) (other tree : MapTree) → AllHeads P other → (b ≡ false → AllHeads P tree)
      → AllHeads P (if b then other else tree)
  heads_unless true other tree first second = first
  heads_unless false other tree first second = second refl

  -- of trees that are made each of an item
  pub heads_of_each : {X : Type 0} (made : X → MapTree) (xs : List X) → AllByRecursion (λ x. AllHeads P (made x)) xs
      → AllHeads P (all_beside (map made xs))
  heads_of_each made [] each = tt
  heads_of_each made (x ∷ xs) each =
      heads_beside (made x) (all_beside (map made xs)) each.0 (heads_of_each made xs each.1)

-- what follows from it
pub heads_weaker : (P Q : Head → Type 0) → ((head : Head) → P head → Q head) → (tree : MapTree) → AllHeads P tree
    → AllHeads Q tree
heads_weaker P Q gives NoNodes all = tt
heads_weaker P Q gives (MapNode head below more) all =
    (gives head all.0, heads_weaker P Q gives below all.1, heads_weaker P Q gives more all.2)

-- Filtering leaves it true of each head that stays

module _ (P : Head → Type 0) (world : World) (rules : List Rule) where
  heads_judged : (tree : MapTree) → AllHeads P tree → AllHeads P (judged world rules tree).tree
  heads_judged NoNodes all = tt
  heads_judged (MapNode head below more) all =
      let inside = judged world rules below in
      let others = judged world rules more in
      let inner = heads_judged below all.1 in
      let behind = heads_judged more all.2 in
      heads_by_test P (is_excluded world rules head) others
      (beside (record { tree = MapNode head inside.tree NoNodes; faults = inside.faults }) others) behind
      (all.0, inner, behind)

  pub heads_filtered : (tree : MapTree) → AllHeads P tree → AllHeads P (filtered world rules tree).tree
  heads_filtered NoNodes all = tt
  heads_filtered (MapNode head below more) all = (all.0, heads_judged below all.1, all.2)

-- What holds of each head holds of each node

module _ (P : Head → Type 0) (Q : PlanNode → Type 0)
    (gives : (head : Head) (parent end : ℕ) → P head → Q (node_of head parent end)) where
  each_both : (nodes more : List PlanNode) → AllByRecursion Q nodes → AllByRecursion Q more
      → AllByRecursion Q (nodes ++ more)
  each_both [] more first second = second
  each_both (node ∷ nodes) more first second = (first.0, each_both nodes more first.1 second)

  pub each_below : (parent place : ℕ) (tree : MapTree) → AllHeads P tree → AllByRecursion Q (nodes_below parent place tree)
  each_below parent place NoNodes all = tt
  each_below parent place (MapNode head below more) all =
      let end = place + 1 + count below in (
        gives head parent end all.0,
        each_both (nodes_below place (place + 1) below) (nodes_below parent end more)
            (each_below place (place + 1) below all.1) (each_below parent end more all.2),
      )

  each_at : (nodes : List PlanNode) (at : ℕ) (node : PlanNode) → AllByRecursion Q nodes
      → slice_get nodes at ≡ Some node → Q node
  each_at [] at node all is = cc
  each_at (first ∷ nodes) zero node all is = let same : first ≡ node = cc in subst Q same all.0
  each_at (first ∷ nodes) (suc at) node all is = each_at nodes at node all.1 is

  pub node_at : (parent place : ℕ) (tree : MapTree) (at : ℕ) (node : PlanNode) → AllHeads P tree
      → slice_get (nodes_below parent place tree) at ≡ Some node → Q node
  node_at parent place tree at node all is =
      each_at (nodes_below parent place tree) at node (each_below parent place tree all) is
