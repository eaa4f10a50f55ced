-- Lists of nodes that differ in no parent and no end: if one is a tree, the other is.
use Rattle.std.specs.Prelude.{◌≡◌, ◌+◌, ◌<◌, ◌≤◌, ℕ, zero, suc, List, [], ◌∷◌, Option, Some, None, IfSome, length, slice_get}
use Rattle.std.proofs.Common.{refl, sym, ◌∙◌, ap, subst, arith}
use Rattle.std.proofs.lemmas.Option.{none-some, same_Some}
use Rattle.dita_doc.specs.declared.plan.PlanNode.{PlanNode}
use Rattle.reader_spec.specs.World.{World}
use Rattle.map_spec.specs.Cascade.{cascaded, cascaded_from}
use Rattle.map_spec.specs.Scopes.{scoped, scoped_from}
use Rattle.language_laws.specs.PlanTree.{IsPlanTree, StandsBelow}

-- two nodes have one parent and one end
pub record HasPlace (node other : PlanNode) : Type 0 where
  pub parent : node.parent ≡ other.parent
  pub end : node.end ≡ other.end

-- as many nodes, each with the parent and the end of the one at its place
abbrev pub AreAlike : List PlanNode → List PlanNode → Type 0
AreAlike [] [] = Unit {0}
AreAlike [] (other ∷ others) = ⊥
AreAlike (node ∷ nodes) [] = ⊥
AreAlike (node ∷ nodes) (other ∷ others) = HasPlace node other × AreAlike nodes others

-- the other way round
pub alike_back : (nodes others : List PlanNode) → AreAlike nodes others → AreAlike others nodes
alike_back [] [] alike = tt
alike_back [] (other ∷ others) alike = absurd alike
alike_back (node ∷ nodes) [] alike = absurd alike
alike_back (node ∷ nodes) (other ∷ others) alike =
    (record { parent = sym alike.0.parent; end = sym alike.0.end }, alike_back nodes others alike.1)

-- lists that are alike are as long
pub alike_length : (nodes others : List PlanNode) → AreAlike nodes others → length nodes ≡ length others
alike_length [] [] alike = refl
alike_length [] (other ∷ others) alike = absurd alike
alike_length (node ∷ nodes) [] alike = absurd alike
alike_length (node ∷ nodes) (other ∷ others) alike = ap suc (alike_length nodes others alike.1)

-- what is like a list that is like a third, is like the third
pub alike_both : (nodes others more : List PlanNode) → AreAlike nodes others → AreAlike others more
    → AreAlike nodes more
alike_both [] [] more first second = second
alike_both [] (other ∷ others) more first second = absurd first
alike_both (node ∷ nodes) [] more first second = absurd first
alike_both (node ∷ nodes) (other ∷ others) [] first second = absurd second
alike_both (node ∷ nodes) (other ∷ others) (last ∷ more) first second = (
  record { parent = first.0.parent ∙ second.0.parent; end = first.0.end ∙ second.0.end },
  alike_both nodes others more first.1 second.1,
)

-- the node of the other list at a place of one
alike_at : (nodes others : List PlanNode) → AreAlike nodes others → (at : ℕ) (node : PlanNode)
    → slice_get nodes at ≡ Some node → (other : PlanNode) × (slice_get others at ≡ Some other) × HasPlace node other
alike_at [] others alike at node is = absurd (none-some node is)
alike_at (first ∷ nodes) [] alike at node is = absurd alike
alike_at (first ∷ nodes) (other ∷ others) alike zero node is =
    (other, refl, subst (λ node. HasPlace node other) (same_Some first node is) alike.0)
alike_at (first ∷ nodes) (other ∷ others) alike (suc at) node is = alike_at nodes others alike.1 at node is

-- an end that lies within the parent's in one list does so in the other
within_alike : (nodes others : List PlanNode) → AreAlike nodes others → (at end : ℕ)
    → IfSome (slice_get nodes at) (λ parent. end ≤ parent.end) → (found : Option PlanNode)
    → slice_get others at ≡ found → IfSome found (λ parent. end ≤ parent.end)
within_alike nodes others alike at end within None is = tt
within_alike nodes others alike at end within (Some parent) is =
    let (own, there, place) = alike_at others nodes (alike_back nodes others alike) at parent is in
    let fits : end ≤ own.end = subst (λ found. IfSome found (λ parent. end ≤ parent.end)) there within in
    omega (arith, place.end)

-- What a tree says of its nodes, the other list says of its own

module _ (nodes others : List PlanNode) (alike : AreAlike nodes others) (tree : IsPlanTree nodes) where
  -- where parents stand
  below_alike : (at : ℕ) (other : PlanNode) → 0 < at → slice_get others at ≡ Some other → StandsBelow others at other
  below_alike at other after is =
      let (node, there, place) = alike_at others nodes (alike_back nodes others alike) at other is in
      let stands = tree.each at node after there in
      record {
        parent = omega (arith, stands.parent, place.parent);
        own = omega (arith, stands.own, place.end);
        within = within_alike nodes others alike other.parent other.end
            (subst (λ at. IfSome (slice_get nodes at) (λ parent. other.end ≤ parent.end)) (sym place.parent)
            (subst (λ end. IfSome (slice_get nodes node.parent) (λ parent. end ≤ parent.end)) (sym place.end)
            stands.within))
            (slice_get others other.parent) refl;
      }

  -- and what ends hold
  hold_alike : (at : ℕ) (other : PlanNode) → slice_get others at ≡ Some other
      → (k : ℕ) (inside : PlanNode) → at < k → k < other.end → slice_get others k ≡ Some inside → at ≤ inside.parent
  hold_alike at other is k inside after before found =
      let (node, there, place) = alike_at others nodes (alike_back nodes others alike) at other is in
      let (own, here, own_place) = alike_at others nodes (alike_back nodes others alike) k inside found in
      let under = tree.below at node there k own after (omega (arith, place.end)) here in
      omega (arith, own_place.parent)

-- the first node holds all
first_alike : (nodes others : List PlanNode) → AreAlike nodes others
    → IfSome (slice_get nodes 0) (λ node. (node.parent ≡ 0) × (node.end ≡ length nodes))
    → IfSome (slice_get others 0) (λ node. (node.parent ≡ 0) × (node.end ≡ length others))
first_alike nodes [] alike first = tt
first_alike [] (other ∷ others) alike first = absurd alike
first_alike (node ∷ nodes) (other ∷ others) alike first = (
  sym alike.0.parent ∙ first.0,
  sym alike.0.end ∙ first.1 ∙ alike_length (node ∷ nodes) (other ∷ others) alike,
)

-- a list like a tree is a tree
pub tree_alike : (nodes others : List PlanNode) → AreAlike nodes others → IsPlanTree nodes → IsPlanTree others
tree_alike nodes others alike tree = record {
  any = omega (arith, tree.any, alike_length nodes others alike);
  first = first_alike nodes others alike tree.first;
  each = below_alike nodes others alike tree;
  below = hold_alike nodes others alike tree;
}

-- The cascade changes no parent and no end, nor do scopes

-- cascaded nodes are like the nodes
cascaded_alike : (world : World) (all : List PlanNode) (at : ℕ) (nodes : List PlanNode)
    → AreAlike nodes (cascaded_from world all at nodes)
cascaded_alike world all at [] = tt
cascaded_alike world all at (node ∷ more) =
    (record { parent = refl; end = refl }, cascaded_alike world all (at + 1) more)

-- nodes with scopes are
scoped_alike : (all : List PlanNode) (at : ℕ) (nodes : List PlanNode) → AreAlike nodes (scoped_from all at nodes)
scoped_alike all at [] = tt
scoped_alike all at (node ∷ more) = (record { parent = refl; end = refl }, scoped_alike all (at + 1) more)

-- and so are nodes with both
pub finished_alike : (world : World) (nodes : List PlanNode) → AreAlike nodes (scoped (cascaded world nodes))
finished_alike world nodes =
    let values = cascaded world nodes in
    alike_both nodes values (scoped values) (cascaded_alike world nodes 0 nodes) (scoped_alike values 0 values)
