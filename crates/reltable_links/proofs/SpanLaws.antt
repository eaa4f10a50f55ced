-- The nodes below a node in a tree stand right behind it, up to its end.
use Rattle.std.specs.Prelude.{◌≡◌, ◌+◌, ◌-◌, ◌<◌, ◌≤◌, ℕ, zero, suc, List, [], ◌∷◌, ◌++◌, Some, length, map, slice_get}
use Rattle.std.proofs.Common.{refl, sym, ap, subst, ◌∙◌, arith, append-nil}
use Rattle.std.proofs.Math.Logic.{◌⊎◌, inl, inr, ⊎_elim}
use Rattle.std.proofs.lemmas.List.{length-map, map-append}
use Rattle.std.proofs.lemmas.Option.{same_Some}
use Rattle.dita_doc.specs.declared.plan.PlanNode.{PlanNode}
use Rattle.dita_doc.proofs.Tests.{nothing_more, place_next}
use Rattle.map_spec.specs.MapTree.{MapTree, MapNode, NoNodes, count, nodes_below, plan_nodes}
use Rattle.map_lemmas.proofs.TreeLaws.{length_below}
use Rattle.plan_nodes.specs.Preorder.{HasOneRoot, IsTree, shape}

abbrev pub Shape : Type 0
Shape = ℕ × ℕ

-- a node behind one that ends here: its parent stands within that one, or not, as itself does
pub record IsBeside (first end at : ℕ) (node : Shape) : Type 0 where
  pub before : node.0 < at
  pub within : at < end → first ≤ node.0
  pub beyond : end ≤ at → node.0 < end → node.0 < first

abbrev AreBeside : ℕ → ℕ → ℕ → List Shape → Type 0
AreBeside first end at [] = Unit {0}
AreBeside first end at (node ∷ nodes) = IsBeside first end at node × AreBeside first end (at + 1) nodes

-- each ends behind itself, and those behind it stand beside it
abbrev pub AreSpans : ℕ → List Shape → Type 0
AreSpans at [] = Unit {0}
AreSpans at (node ∷ nodes) = (at < node.1) × AreBeside at node.1 (at + 1) nodes × AreSpans (at + 1) nodes

-- the parents of nodes are one, or stand from a place on, and each before its node
abbrev ParentsAre : ℕ → ℕ → ℕ → List Shape → Type 0
ParentsAre parent from at [] = Unit {0}
ParentsAre parent from at (node ∷ nodes) =
    (node.0 < at) × ((node.0 ≡ parent) ⊎ (from ≤ node.0)) × ParentsAre parent from (at + 1) nodes

abbrev EndsWithin : ℕ → List Shape → Type 0
EndsWithin end [] = Unit {0}
EndsWithin end (node ∷ nodes) = (node.1 ≤ end) × EndsWithin end nodes

-- One list behind the other

beside_both : (first end at : ℕ) (nodes more : List Shape) → AreBeside first end at nodes
    → AreBeside first end (at + length nodes) more → AreBeside first end at (nodes ++ more)
beside_both first end at [] more one two = subst (λ n. AreBeside first end n more) (nothing_more at) two
beside_both first end at (node ∷ nodes) more one two = (
  one.0,
  beside_both first end (at + 1) nodes more one.1
      (subst (λ n. AreBeside first end n more) (place_next at (length nodes)) two),
)

parents_both : (parent from at : ℕ) (nodes more : List Shape) → ParentsAre parent from at nodes
    → ParentsAre parent from (at + length nodes) more → ParentsAre parent from at (nodes ++ more)
parents_both parent from at [] more one two = subst (λ n. ParentsAre parent from n more) (nothing_more at) two
parents_both parent from at (node ∷ nodes) more one two = (
  one.0,
  one.1,
  parents_both parent from (at + 1) nodes more one.2
      (subst (λ n. ParentsAre parent from n more) (place_next at (length nodes)) two),
)

ends_both : (end : ℕ) (nodes more : List Shape) → EndsWithin end nodes → EndsWithin end more
    → EndsWithin end (nodes ++ more)
ends_both end [] more one two = two
ends_both end (node ∷ nodes) more one two = (one.0, ends_both end nodes more one.1 two)

-- all of them within
beside_within : (first end at : ℕ) (nodes : List Shape) → at + length nodes ≤ end
    → ParentsAre first (first + 1) at nodes → AreBeside first end at nodes
beside_within first end at [] fits are = tt
beside_within first end at (node ∷ nodes) fits are = (
  record {
    before = are.0;
    within = λ less. ⊎_elim (λ (e : node.0 ≡ first). omega (arith, e)) (λ (e : first + 1 ≤ node.0). omega (arith, e)) are.1;
    beyond = λ far near. absurd (omega (arith, far, fits));
  },
  beside_within first end (at + 1) nodes (omega (arith, fits)) are.2,
)

-- all of them beyond
beside_beyond : (first end at parent from : ℕ) (nodes : List Shape) → end ≤ at → parent < first → end ≤ from
    → ParentsAre parent from at nodes → AreBeside first end at nodes
beside_beyond first end at parent from [] far less late are = tt
beside_beyond first end at parent from (node ∷ nodes) far less late are = (
  record {
    before = are.0;
    within = λ near. absurd (omega (arith, far, near));
    beyond = λ behind near. ⊎_elim (λ (e : node.0 ≡ parent). omega (arith, e, less))
        (λ (e : from ≤ node.0). absurd (omega (arith, e, late, near))) are.1;
  },
  beside_beyond first end (at + 1) parent from nodes (omega (arith, far)) less late are.2,
)

spans_both : (at end parent : ℕ) (nodes more : List Shape) → AreSpans at nodes → EndsWithin end nodes
    → at + length nodes ≡ end → parent < at → ParentsAre parent end end more → AreSpans end more
    → AreSpans at (nodes ++ more)
spans_both at end parent [] more one within long less are two =
    subst (λ n. AreSpans n more) (sym long ∙ nothing_more at) two
spans_both at end parent (node ∷ nodes) more one within long less are two =
    let same : at + 1 + length nodes ≡ end = omega (arith, long) in (
      one.0,
      beside_both at node.1 (at + 1) nodes more one.1
          (subst (λ n. AreBeside at node.1 n more) (sym same)
          (beside_beyond at node.1 end parent end more within.0 less within.0 are)),
      spans_both (at + 1) end parent nodes more one.2 within.1 same (omega (arith, less)) are two,
    )

-- The nodes of a tree

abbrev shapes : ℕ → ℕ → MapTree → List Shape
shapes parent place tree = map shape (nodes_below parent place tree)

long_shapes : (parent place : ℕ) (tree : MapTree) → length (shapes parent place tree) ≡ count tree
long_shapes parent place tree = length-map (nodes_below parent place tree) shape ∙ length_below parent place tree

parents_less : (parent from less at : ℕ) (nodes : List Shape) → less ≤ from → ParentsAre parent from at nodes
    → ParentsAre parent less at nodes
parents_less parent from less at [] early are = tt
parents_less parent from less at (node ∷ nodes) early are = (
  are.0,
  ⊎_elim inl (λ (e : from ≤ node.0). inr (omega (arith, e, early))) are.1,
  parents_less parent from less (at + 1) nodes early are.2,
)

parents_own : (own parent less at : ℕ) (nodes : List Shape) → less ≤ own → ParentsAre own (own + 1) at nodes
    → ParentsAre parent less at nodes
parents_own own parent less at [] early are = tt
parents_own own parent less at (node ∷ nodes) early are = (
  are.0,
  ⊎_elim (λ (e : node.0 ≡ own). inr (omega (arith, e, early)))
      (λ (e : own + 1 ≤ node.0). inr (omega (arith, e, early))) are.1,
  parents_own own parent less (at + 1) nodes early are.2,
)

split : (parent place : ℕ) (head : Rattle.map_spec.specs.MapTree.Head) (below more : MapTree)
    → shapes parent place (MapNode head below more)
    ≡ (parent, place + 1 + count below) ∷ (shapes place (place + 1) below ++ shapes parent (place + 1 + count below) more)
split parent place head below more = ap (λ l. (parent, place + 1 + count below) ∷ l)
    (map-append shape (nodes_below place (place + 1) below) (nodes_below parent (place + 1 + count below) more))

tree_parents : (tree : MapTree) (parent place : ℕ) → parent < place
    → ParentsAre parent place place (shapes parent place tree)
tree_parents NoNodes parent place less = tt
tree_parents (MapNode head below more) parent place less =
    let end = place + 1 + count below in
    let long : place + 1 + length (shapes place (place + 1) below) ≡ end =
    ap (λ n. place + 1 + n) (long_shapes place (place + 1) below) in
    subst (ParentsAre parent place place) (sym (split parent place head below more)) (
      less,
      inl refl,
      parents_both parent place (place + 1) (shapes place (place + 1) below) (shapes parent end more)
          (parents_own place parent place (place + 1) (shapes place (place + 1) below) (omega arith)
          (tree_parents below place (place + 1) (omega arith)))
          (subst (λ n. ParentsAre parent place n (shapes parent end more)) (sym long)
          (parents_less parent end place end (shapes parent end more) (omega arith)
          (tree_parents more parent end (omega (arith, less))))),
    )

tree_ends : (tree : MapTree) (parent place end : ℕ) → place + count tree ≤ end
    → EndsWithin end (shapes parent place tree)
tree_ends NoNodes parent place end fits = tt
tree_ends (MapNode head below more) parent place end fits =
    subst (EndsWithin end) (sym (split parent place head below more)) (
      omega (arith, fits),
      ends_both end (shapes place (place + 1) below) (shapes parent (place + 1 + count below) more)
          (tree_ends below place (place + 1) end (omega (arith, fits)))
          (tree_ends more parent (place + 1 + count below) end (omega (arith, fits))),
    )

tree_spans : (tree : MapTree) (parent place : ℕ) → parent < place → AreSpans place (shapes parent place tree)
tree_spans NoNodes parent place less = tt
tree_spans (MapNode head below more) parent place less =
    let end = place + 1 + count below in
    let long : place + 1 + length (shapes place (place + 1) below) ≡ end =
    ap (λ n. place + 1 + n) (long_shapes place (place + 1) below) in
    let later = tree_parents more parent end (omega (arith, less)) in
    subst (AreSpans place) (sym (split parent place head below more)) (
      omega arith,
      beside_both place end (place + 1) (shapes place (place + 1) below) (shapes parent end more)
          (beside_within place end (place + 1) (shapes place (place + 1) below) (omega (arith, long))
          (tree_parents below place (place + 1) (omega arith)))
          (subst (λ n. AreBeside place end n (shapes parent end more)) (sym long)
          (beside_beyond place end end parent end (shapes parent end more) (omega arith) less (omega arith) later)),
      spans_both (place + 1) end parent (shapes place (place + 1) below) (shapes parent end more)
          (tree_spans below place (place + 1) (omega arith)) (tree_ends below place (place + 1) end (omega arith))
          long (omega (arith, less)) later (tree_spans more parent end (omega (arith, less))),
    )

root_spans : (tree : MapTree) → HasOneRoot tree → AreSpans 0 (map shape (plan_nodes tree))
root_spans NoNodes one = tt
root_spans (MapNode head below more) one =
    let end = 0 + 1 + count below in
    let inner = shapes 0 1 below in
    let long : 1 + length inner ≡ end = ap (λ n. 1 + n) (long_shapes 0 1 below) in
    let only : shapes 0 0 (MapNode head below more) ≡ (0, end) ∷ inner =
    split 0 0 head below more ∙ ap (λ l. (0, end) ∷ l) (ap (λ t. inner ++ shapes 0 end t) one ∙ append-nil inner) in
    subst (AreSpans 0) (sym only) (
      omega arith,
      beside_within 0 end 1 inner (omega (arith, long)) (tree_parents below 0 1 (omega arith)),
      tree_spans below 0 1 (omega arith),
    )

-- Two nodes of a tree

beside_at : (first end from at : ℕ) (nodes : List Shape) (node : Shape) → AreBeside first end from nodes
    → slice_get nodes at ≡ Some node → IsBeside first end (from + at) node
beside_at first end from zero [] node are is = cc
beside_at first end from (suc at) [] node are is = cc
beside_at first end from zero (one ∷ nodes) node are is =
    subst (λ n. IsBeside first end n node) (sym (nothing_more from))
    (subst (IsBeside first end from) (same_Some one node is) are.0)
beside_at first end from (suc at) (one ∷ nodes) node are is =
    subst (λ n. IsBeside first end n node) (sym (place_next from at))
    (beside_at first end (from + 1) at nodes node are.1 is)

-- what is known of a node, and of one behind it
pub record IsSpan (first : ℕ) (node : Shape) (at : ℕ) (other : Shape) : Type 0 where
  pub past : first < node.1
  pub beside : IsBeside first node.1 at other

spans_at : (from first at : ℕ) (nodes : List Shape) (node other : Shape) → AreSpans from nodes
    → slice_get nodes first ≡ Some node → slice_get nodes (first + 1 + at) ≡ Some other
    → IsSpan (from + first) node (from + first + 1 + at) other
spans_at from zero at [] node other are one two = cc
spans_at from (suc first) at [] node other are one two = cc
spans_at from zero at (here ∷ nodes) node other are one two =
    let same : here ≡ node = same_Some here node one in
    let place : 0 + 1 + at ≡ suc at = omega arith in
    let behind : slice_get nodes at ≡ Some other = ap (slice_get (here ∷ nodes)) (sym place) ∙ two in
    let span : IsSpan from node (from + 1 + at) other = record {
      past = subst (λ (n : Shape). from < n.1) same are.0;
      beside = beside_at from node.1 (from + 1) at nodes other
          (subst (λ (n : Shape). AreBeside from n.1 (from + 1) nodes) same are.1) behind;
    } in
    subst (λ n. IsSpan n node (n + 1 + at) other) (sym (nothing_more from)) span
spans_at from (suc first) at (here ∷ nodes) node other are one two =
    let place : suc first + 1 + at ≡ suc (first + 1 + at) = omega arith in
    subst (λ n. IsSpan n node (n + 1 + at) other) (sym (place_next from first))
    (spans_at (from + 1) first at nodes node other are.2 one (ap (slice_get (here ∷ nodes)) (sym place) ∙ two))

tree_are : (nodes : List PlanNode) → IsTree nodes → AreSpans 0 (map shape nodes)
tree_are nodes tree = subst (AreSpans 0) (sym tree.is) (root_spans tree.tree tree.one)

shape_at : (nodes : List PlanNode) (at : ℕ) (node : PlanNode) → slice_get nodes at ≡ Some node
    → slice_get (map shape nodes) at ≡ Some (shape node)
shape_at [] zero node is = cc
shape_at [] (suc at) node is = cc
shape_at (first ∷ nodes) zero node is = ap (λ (n : PlanNode). Some (shape n)) (same_Some first node is)
shape_at (first ∷ nodes) (suc at) node is = shape_at nodes at node is

-- of two nodes of a tree, one behind the other
pub tree_span : (nodes : List PlanNode) → IsTree nodes → (first at : ℕ) (node other : PlanNode) → first < at
    → slice_get nodes first ≡ Some node → slice_get nodes at ≡ Some other
    → IsSpan first (shape node) at (shape other)
tree_span nodes tree first at node other less one two =
    let more : ℕ = at - (first + 1) in
    let same : first + 1 + more ≡ at = omega (arith, less) in
    let zeroth : 0 + first ≡ first = omega arith in
    subst (λ n. IsSpan first (shape node) n (shape other)) same
    (subst (λ n. IsSpan n (shape node) (n + 1 + more) (shape other)) zeroth
    (spans_at 0 first more (map shape nodes) (shape node) (shape other) (tree_are nodes tree)
    (shape_at nodes first node one) (shape_at nodes (first + 1 + more) other (ap (slice_get nodes) same ∙ two))))
