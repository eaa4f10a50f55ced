-- The way up from a node of a tree: what stands on it has the node within its span.
use Rattle.std.specs.Prelude.{◌≡◌, ◌+◌, ◌<◌, ◌≤◌, ℕ, zero, suc, Bool, true, false, List, ◌∷◌, Some, None, find, slice_get, if◌then◌else◌}
use Rattle.std.proofs.Common.{refl, sym, ap, subst, ◌∙◌, arith}
use Rattle.std.proofs.Math.Logic.{◌⊎◌, inl, inr, ⊎_elim}
use Rattle.std.proofs.lemmas.Bool.{cases_lt}
use Rattle.std.proofs.lemmas.Option.{same_Some}
use Rattle.dita_doc.specs.declared.plan.PlanNode.{PlanNode}
use Rattle.map_spec.specs.Cascade.{places_up, steps_up}
use Rattle.plan_nodes.specs.Preorder.{HasParentsBefore, IsTree}
use Rattle.plan_nodes.proofs.PlaceLaws.{up_from}
use Rattle.reltable_links.proofs.ListLaws.{before_there}
use Rattle.reltable_links.proofs.SpanLaws.{tree_span}

-- the nodes of a tree stand behind their parents
pub tree_before : (nodes : List PlanNode) → IsTree nodes → HasParentsBefore nodes
tree_before nodes tree = λ at node some is.
    let first = before_there 0 at nodes node some is in
    (tree_span nodes tree 0 at first.0 node some first.1 is).beside.before

-- a node has another within its span, or is it
pub record IsOver (nodes : List PlanNode) (first at : ℕ) : Type 0 where
  pub behind : first ≤ at
  pub within : first < at → (node : PlanNode) → slice_get nodes first ≡ Some node → at < node.end

pub record IsFirstUp (nodes : List PlanNode) (test : ℕ → Bool) (at first : ℕ) : Type 0 where
  pub holds : test first ≡ true
  pub over : IsOver nodes first at

module _ (nodes : List PlanNode) (tree : IsTree nodes) (test : ℕ → Bool) where
  over_more : (at first : ℕ) (node : PlanNode) → 0 < at → slice_get nodes at ≡ Some node
      → IsOver nodes first node.parent → IsOver nodes first at
  over_more at first node above is over =
      let up = tree_before nodes tree at node above is in
      let low = over.behind in
      record {
        behind = omega (arith, up, low);
        within = λ less one there.
            let span = tree_span nodes tree first at one node less there is in
            let past = span.past in
            by_order at one (λ far near. span.beside.beyond far near) past low (over.within) there
            (cases_lt at one.end);
      }
    where
      by_order : (k : ℕ) (one : PlanNode)
          → (one.end ≤ k → node.parent < one.end → node.parent < first) → first < one.end → first ≤ node.parent
          → (first < node.parent → (n : PlanNode) → slice_get nodes first ≡ Some n → node.parent < n.end)
          → slice_get nodes first ≡ Some one
          → (k < one.end) ⊎ (one.end ≤ k) → k < one.end
      by_order k one beyond past low within there (inl less) = less
      by_order k one beyond past low within there (inr far) = ⊎_elim
          (λ (less : first < node.parent). absurd (
          let near = within less one there in let apart = beyond far near in omega (arith, apart, low)))
          (λ (same : node.parent ≤ first). absurd (
          let near : node.parent < one.end = omega (arith, same, past) in
          let apart = beyond far near in omega (arith, apart, low)))
          (cases_lt first node.parent)

  -- what is found on the way up has the node within its span
  pub found_up : (steps at first : ℕ) (node : PlanNode) → at < steps → slice_get nodes at ≡ Some node
      → find test (places_up nodes at) ≡ Some first → IsFirstUp nodes test at first
  found_up zero at first node few is found = absurd (omega (arith, few))
  found_up (suc steps) zero first node few is found = by_test (test 0) refl found
    where
      by_test : (a : Bool) → test 0 ≡ a → (if a then Some 0 else None) ≡ Some first → IsFirstUp nodes test 0 first
      by_test true e same =
          let here : 0 ≡ first = same_Some 0 first same in
          subst (IsFirstUp nodes test 0) here
          (record { holds = e; over = record { behind = omega arith; within = λ less. absurd (omega (arith, less)) } })
      by_test false e same = cc
  found_up (suc steps) (suc at) first node few is found =
      let up = up_from nodes (tree_before nodes tree) (suc at) node is (omega arith) in
      let less = tree_before nodes tree (suc at) node (omega arith) is in
      let above = before_there node.parent (suc at) nodes node less is in
      by_test (test (suc at)) refl (sym (ap (find test) up) ∙ found)
      (λ there. found_up steps node.parent first above.0 (omega (arith, less, few)) above.1 there)
    where
      by_test : (a : Bool) → test (suc at) ≡ a
          → (if a then Some (suc at) else find test (places_up nodes node.parent)) ≡ Some first
          → (find test (places_up nodes node.parent) ≡ Some first → IsFirstUp nodes test node.parent first)
          → IsFirstUp nodes test (suc at) first
      by_test true e same behind =
          subst (IsFirstUp nodes test (suc at)) (same_Some (suc at) first same) (record {
            holds = e;
            over = record { behind = omega arith; within = λ less. absurd (omega (arith, less)) };
          })
      by_test false e same behind =
          let there = behind same in record {
            holds = there.holds;
            over = over_more (suc at) first node (omega arith) is there.over;
          }

  -- what has the node within its span is found, or another before it
  pub up_found : (steps at first : ℕ) (node one : PlanNode) → at < steps → slice_get nodes at ≡ Some node
      → slice_get nodes first ≡ Some one → first < at → at < one.end → test first ≡ true
      → (found : ℕ) × (find test (places_up nodes at) ≡ Some found)
  up_found zero at first node one few is there less within holds = absurd (omega (arith, few))
  up_found (suc steps) at first node one few is there less within holds =
      let up = up_from nodes (tree_before nodes tree) at node is (omega (arith, less)) in
      let before = tree_before nodes tree at node (omega (arith, less)) is in
      let above = before_there node.parent at nodes node before is in
      let low = (tree_span nodes tree first at one node less there is).beside.within within in
      subst (λ places. (found : ℕ) × (find test places ≡ Some found)) (sym up)
      (by_test (test at) refl (⊎_elim
      (λ (lower : first < node.parent). up_found steps node.parent first above.0 one (omega (arith, before, few)) above.1
      there lower (omega (arith, before, within)) holds)
      (λ (high : node.parent ≤ first). let same : first ≡ node.parent = omega (arith, low, high) in
      starts node.parent (ap test (sym same) ∙ holds))
      (cases_lt first node.parent)))
    where
      starts : (k : ℕ) → test k ≡ true → (found : ℕ) × (find test (places_up nodes k) ≡ Some found)
      starts k e = let more : k + 1 ≡ suc k = omega arith in
          (k, ap (λ s. find test (steps_up s nodes k)) more ∙ rw e refl)

      by_test : (a : Bool) → test at ≡ a
          → (found : ℕ) × (find test (places_up nodes node.parent) ≡ Some found)
          → (found : ℕ) × (find test (at ∷ places_up nodes node.parent) ≡ Some found)
      by_test true e behind = (at, rw e refl)
      by_test false e behind = (behind.0, rw e behind.1)
