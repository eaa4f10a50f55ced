-- The scopes of a tree's nodes stand in preorder: each with its parent before it, on the way up from the scope before.
use Rattle.std.specs.Prelude.{◌≡◌, ◌+◌, ◌-◌, ◌<◌, ◌≤◌, ◌==◌, ◌&&◌, ◌++◌, ◌⊎◌, ℕ, zero, suc, Bool, true, false, not, List, [], ◌∷◌, Some, filter, length, nat_lt, slice_get, if◌then◌else◌}
use Rattle.std.specs.List.{filter_map}
use Rattle.std.specs.Option.{option_map_or}
use Rattle.std.proofs.Common.{refl, sym, ap, subst, ◌∙◌, arith, inl, inr, length-append}
use Rattle.std.proofs.lemmas.Bool.{cases_Bool, true≢false}
use Rattle.std.proofs.lemmas.Bool.Decides.{nat_tests}
use Rattle.std.proofs.lemmas.List.{append-nil, append_assoc, take_all}
use Rattle.dita_doc.specs.declared.plan.PlanNode.{PlanNode}
use Rattle.dita_doc.specs.declared.plan.Scope.{Scope}
use Rattle.key_scopes.specs.Above.{AreInPreorder, IsAbove, parent_in, risen}
use Rattle.key_scopes.specs.Numbered.{has_name, scope_placed, scopes_before}
use Rattle.key_scopes.proofs.AboveLaws.{above_both, above_one, above_self}
use Rattle.key_scopes.proofs.NumberLaws.{begun_more, count_put, longer, one_if, scope_above}
use Rattle.key_scopes.proofs.TreeLaws.{node_there, parent_at}
use Rattle.map_spec.specs.Scopes.{begins, has_scope_name, number_of, places, root_scope, scope_at, scope_begun, scopes}
use Rattle.plan_nodes.specs.Preorder.{HasParentsBefore}

-- A list in front of another

record Front (whole part : List Scope) : Type 0 where
  rest : List Scope
  is : whole ≡ part ++ rest

get_left : (first second : List Scope) (i : ℕ) → i < length first → slice_get (first ++ second) i ≡ slice_get first i
get_left [] second i within = absurd (omega arith)
get_left (x ∷ first) second zero within = refl
get_left (x ∷ first) second (suc i) within = get_left first second i (omega arith)

get_last : (first : List Scope) (x : Scope) → slice_get (first ++ x ∷ []) (length first) ≡ Some x
get_last [] x = refl
get_last (y ∷ first) x = get_last first x

module _ (nodes : List PlanNode) where
  scopes_long : (count : ℕ) → count ≤ length nodes → length (scopes_before nodes count) ≡ number_of nodes count
  scopes_long zero within = refl
  scopes_long (suc c) within =
      let found = node_there nodes c (omega arith) in
      let one : c + 1 ≡ suc c = omega arith in
      subst (λ n. length (scopes_before nodes n) ≡ number_of nodes n) one
      (ap length (begun_more nodes c found.0 found.1 (omega arith))
      ∙ longer (scopes_before nodes c) (scope_begun nodes c found.0) (has_name c found.0) (number_of nodes c)
      (scopes_long c (omega arith))
      ∙ sym (count_put nodes c found.0 found.1))

  front : (gap count : ℕ) → count + gap ≤ length nodes
      → Front (scopes_before nodes (count + gap)) (scopes_before nodes count)
  front zero count within =
      let same : count + 0 ≡ count = omega arith in
      record { rest = []; is = ap (scopes_before nodes) same ∙ sym (append-nil (scopes_before nodes count)) }
  front (suc gap) count within =
      let found = node_there nodes count (omega arith) in
      let same : count + suc gap ≡ count + 1 + gap = omega arith in
      let behind = front gap (count + 1) (omega arith) in
      let last = if has_name count found.0 then scope_begun nodes count found.0 ∷ [] else [] in
      record {
        rest = last ++ behind.rest;
        is = ap (scopes_before nodes) same ∙ behind.is
            ∙ ap (λ some. some ++ behind.rest) (begun_more nodes count found.0 found.1 (omega arith))
            ∙ append_assoc (scopes_before nodes count) last behind.rest;
      }

  number_up : (low high : ℕ) → low ≤ high → high ≤ length nodes → number_of nodes low ≤ number_of nodes high
  number_up low high up within =
      let gap : low + (high - low) ≡ high = omega arith in
      let found = front (high - low) low (omega arith) in
      let long = ap length found.is ∙ length-append (scopes_before nodes low) found.rest in
      let same : length (scopes_before nodes (low + (high - low))) ≡ length (scopes_before nodes high) =
      ap (λ n. length (scopes_before nodes n)) gap in
      omega (arith, long, same, scopes_long low (omega arith), scopes_long high within)

  every : scopes_before nodes (length nodes) ≡ scopes nodes
  every = ap (λ all. root_scope ∷ filter_map (scope_placed nodes) (filter (begins nodes) (places all)))
      (take_all (length nodes) nodes (omega arith))

  -- a scope that a node begins is one of the scopes
  pub begun_within : (at : ℕ) → at < length nodes → begins nodes at ≡ true → number_of nodes at < length (scopes nodes)
  begun_within at within begun =
      let found = node_there nodes at within in
      let counted = count_put nodes at found.0 found.1 in
      let named : has_name at found.0 ≡ true =
      ap (λ some. not (at == 0) && option_map_or has_scope_name some false) (sym found.1) ∙ begun in
      let one : one_if (has_name at found.0) ≡ 1 = ap one_if named in
      let up = number_up (at + 1) (length nodes) (omega arith) (omega arith) in
      let long : length (scopes nodes) ≡ number_of nodes (length nodes) =
      ap length (sym every) ∙ scopes_long (length nodes) (omega arith) in
      omega (arith, counted, one, up, long)

  get_front : (count i : ℕ) → count ≤ length nodes → i < length (scopes_before nodes count)
      → slice_get (scopes nodes) i ≡ slice_get (scopes_before nodes count) i
  get_front count i within low =
      let gap : count + (length nodes - count) ≡ length nodes = omega arith in
      let found = front (length nodes - count) count (omega arith) in
      ap (λ all. slice_get all i) (sym every)
      ∙ ap (λ n. slice_get (scopes_before nodes n) i) (sym gap)
      ∙ ap (λ all. slice_get all i) found.is
      ∙ get_left (scopes_before nodes count) found.rest i low

  abbrev around : ℕ → ℕ
  around = parent_in (scopes nodes)

  -- the parent of the scope that a node begins
  around_begun : (at : ℕ) (node : PlanNode) → slice_get nodes at ≡ Some node → at < length nodes → has_name at node
      ≡ true
      → around (number_of nodes at) ≡ scope_at nodes node.parent
  around_begun at node is within named =
      let begun : scopes_before nodes (at + 1) ≡ scopes_before nodes at ++ scope_begun nodes at node ∷ [] =
      begun_more nodes at node is within ∙ rw named refl in
      let long = scopes_long at (omega arith) in
      let more : length (scopes_before nodes at) < length (scopes_before nodes (at + 1)) =
      omega (arith, ap length begun, length-append (scopes_before nodes at) (scope_begun nodes at node ∷ [])) in
      ap around (sym long)
      ∙ ap (λ found. option_map_or (λ (scope : Scope). scope.parent) found 0)
      (get_front (at + 1) (length (scopes_before nodes at)) (omega arith) more
      ∙ ap (λ all. slice_get all (length (scopes_before nodes at))) begun
      ∙ get_last (scopes_before nodes at) (scope_begun nodes at node))

  module _ (ordered : AreInPreorder (parent_at nodes) (length nodes)) (before : HasParentsBefore nodes) where
    one_up : (at : ℕ) → at < length nodes → IsAbove around (scope_at nodes (parent_at nodes at)) (scope_at nodes at)
    one_up zero within =
        subst (λ n. IsAbove around (scope_at nodes n) (scope_at nodes 0)) (sym ordered.root)
        (above_self around (scope_at nodes 0))
    one_up (suc at) within =
        let found = node_there nodes (suc at) within in
        let other : (suc at == 0) ≡ false = grind (arith, nat_tests) in
        let named : has_name (suc at) found.0 ≡ has_scope_name found.0 =
        ap (λ root. not root && has_scope_name found.0) other in
        by_one found.0 found.1 found.2 named (scope_above nodes before (suc at) found.0 found.1 (omega arith))
        (has_scope_name found.0) refl
      where
        by_one : (node : PlanNode) → slice_get nodes (suc at) ≡ Some node → parent_at nodes (suc at) ≡ node.parent
            → has_name (suc at) node ≡ has_scope_name node
            → scope_at nodes (suc at) ≡ (if has_scope_name node then number_of nodes (suc at) else scope_at nodes
            node.parent)
            → (a : Bool) → has_scope_name node ≡ a
            → IsAbove around (scope_at nodes (parent_at nodes (suc at))) (scope_at nodes (suc at))
        by_one node is parent named scope true e =
            let here : scope_at nodes (suc at) ≡ number_of nodes (suc at) = rw e at scope in
            subst (λ n. IsAbove around (scope_at nodes n) (scope_at nodes (suc at))) (sym parent)
            (subst (IsAbove around (scope_at nodes node.parent)) (sym here)
            (subst (λ n. IsAbove around n (number_of nodes (suc at))) (around_begun (suc at) node is within (named ∙ e))
            (above_one around (number_of nodes (suc at)))))
        by_one node is parent named scope false e =
            let here : scope_at nodes (suc at) ≡ scope_at nodes node.parent = rw e at scope in
            subst (λ n. IsAbove around (scope_at nodes n) (scope_at nodes (suc at))) (sym parent)
            (subst (IsAbove around (scope_at nodes node.parent)) (sym here)
            (above_self around (scope_at nodes node.parent)))

    parent_in_range : (at : ℕ) → at < length nodes → parent_at nodes at < length nodes
    parent_in_range zero within = let root = ordered.root in omega (arith, root)
    parent_in_range (suc at) within = let less = ordered.before (suc at) (omega arith) within in omega (arith, less)

    -- a node above another one belongs to a scope above that of the other
    scopes_up : (top steps at : ℕ) → at < length nodes → risen (parent_at nodes) steps at ≡ top
        → IsAbove around (scope_at nodes top) (scope_at nodes at)
    scopes_up top zero at within is =
        subst (λ n. IsAbove around (scope_at nodes n) (scope_at nodes at)) is (above_self around (scope_at nodes at))
    scopes_up top (suc steps) at within is =
        above_both around (scope_at nodes top) (scope_at nodes (parent_at nodes at)) (scope_at nodes at)
        (scopes_up top steps (parent_at nodes at) (parent_in_range at within) is) (one_up at within)

    -- a node's scope stands above the last scope so far
    last_scope : (at : ℕ) → at < length nodes → IsAbove around (scope_at nodes at) (number_of nodes (at + 1) - 1)
    last_scope zero within =
        let found = node_there nodes 0 within in
        let counted = count_put nodes 0 found.0 found.1 in
        let none : 0 ≡ number_of nodes (0 + 1) - 1 = omega (arith, counted) in
        subst (IsAbove around 0) none (above_self around 0)
    last_scope (suc at) within =
        let found = node_there nodes (suc at) within in
        let other : (suc at == 0) ≡ false = grind (arith, nat_tests) in
        let named : has_name (suc at) found.0 ≡ has_scope_name found.0 =
        ap (λ root. not root && has_scope_name found.0) other in
        let one : suc at - 1 ≡ at = omega arith in
        let up = ordered.above (suc at) (omega arith) within in
        let node_up : IsAbove (parent_at nodes) found.0.parent at =
        subst (λ n. IsAbove (parent_at nodes) n at) found.2
        (subst (IsAbove (parent_at nodes) (parent_at nodes (suc at))) one up) in
        by_one found.0 (count_put nodes (suc at) found.0 found.1) named
        (scope_above nodes before (suc at) found.0 found.1 (omega arith))
        (above_both around (scope_at nodes found.0.parent) (scope_at nodes at) (number_of nodes (at + 1) - 1)
        (scopes_up found.0.parent node_up.steps at (omega arith) node_up.is) (last_scope at (omega arith)))
        (has_scope_name found.0) refl
      where
        by_one : (node : PlanNode) → number_of nodes (suc at + 1)
            ≡ number_of nodes (suc at) + one_if (has_name (suc at) node)
            → has_name (suc at) node ≡ has_scope_name node
            → scope_at nodes (suc at) ≡ (if has_scope_name node then number_of nodes (suc at) else scope_at nodes
            node.parent)
            → IsAbove around (scope_at nodes node.parent) (number_of nodes (at + 1) - 1)
            → (a : Bool) → has_scope_name node ≡ a
            → IsAbove around (scope_at nodes (suc at)) (number_of nodes (suc at + 1) - 1)
        by_one node counted named scope behind true e =
            let here : scope_at nodes (suc at) ≡ number_of nodes (suc at) = rw e at scope in
            let one : one_if (has_name (suc at) node) ≡ 1 = ap one_if (named ∙ e) in
            let last : number_of nodes (suc at) ≡ number_of nodes (suc at + 1) - 1 = omega (arith, counted, one) in
            subst (IsAbove around (scope_at nodes (suc at))) (here ∙ last) (above_self around (scope_at nodes (suc at)))
        by_one node counted named scope behind false e =
            let here : scope_at nodes (suc at) ≡ scope_at nodes node.parent = rw e at scope in
            let none : one_if (has_name (suc at) node) ≡ 0 = ap one_if (named ∙ e) in
            let next : at + 1 ≡ suc at = omega arith in
            let last : number_of nodes (at + 1) - 1 ≡ number_of nodes (suc at + 1) - 1 =
            ap (λ n. number_of nodes n - 1) next ∙ omega (arith, counted, none) in
            subst (IsAbove around (scope_at nodes (suc at))) last
            (subst (λ n. IsAbove around n (number_of nodes (at + 1) - 1)) (sym here) behind)

    -- a scope's number is lower than the count of scopes so far
    scope_low : (bound at : ℕ) → at < bound → at < length nodes → scope_at nodes at < number_of nodes (at + 1)
    scope_low zero at low within = absurd (omega arith)
    scope_low (suc bound) zero low within =
        let up = number_up 0 (0 + 1) (omega arith) (omega arith) in omega (arith, up)
    scope_low (suc bound) (suc at) low within =
        let found = node_there nodes (suc at) within in
        let up = before (suc at) found.0 (omega arith) found.1 in
        let other : (suc at == 0) ≡ false = grind (arith, nat_tests) in
        let named : has_name (suc at) found.0 ≡ has_scope_name found.0 =
        ap (λ root. not root && has_scope_name found.0) other in
        by_one found.0 (count_put nodes (suc at) found.0 found.1) named
        (scope_above nodes before (suc at) found.0 found.1 (omega arith))
        (scope_low bound found.0.parent (omega arith) (omega arith))
        (number_up (found.0.parent + 1) (suc at + 1) (omega arith) (omega arith))
        (has_scope_name found.0) refl
      where
        by_one : (node : PlanNode) → number_of nodes (suc at + 1)
            ≡ number_of nodes (suc at) + one_if (has_name (suc at) node)
            → has_name (suc at) node ≡ has_scope_name node
            → scope_at nodes (suc at) ≡ (if has_scope_name node then number_of nodes (suc at) else scope_at nodes
            node.parent)
            → scope_at nodes node.parent < number_of nodes (node.parent + 1)
            → number_of nodes (node.parent + 1) ≤ number_of nodes (suc at + 1)
            → (a : Bool) → has_scope_name node ≡ a → scope_at nodes (suc at) < number_of nodes (suc at + 1)
        by_one node counted named scope behind up true e =
            let here : scope_at nodes (suc at) ≡ number_of nodes (suc at) = rw e at scope in
            let one : one_if (has_name (suc at) node) ≡ 1 = ap one_if (named ∙ e) in
            omega (arith, here, one, counted)
        by_one node counted named scope behind up false e =
            let here : scope_at nodes (suc at) ≡ scope_at nodes node.parent = rw e at scope in
            omega (arith, here, behind, up)

    record Stands (number : ℕ) : Type 0 where
      low : around number < number
      above : IsAbove around (around number) (number - 1)

    begun_stands : (at : ℕ) (node : PlanNode) → slice_get nodes at ≡ Some node → at < length nodes
        → has_name at node ≡ true → Stands (number_of nodes at)
    begun_stands zero node is within named = absurd (true≢false (sym named))
    begun_stands (suc at) node is within named =
        let is_around = around_begun (suc at) node is within named in
        let up = before (suc at) node (omega arith) is in
        let found = node_there nodes (suc at) within in
        let same : found.0 ≡ node = let other = found.1 in cc in
        let one : suc at - 1 ≡ at = omega arith in
        let next : at + 1 ≡ suc at = omega arith in
        let parent : parent_at nodes (suc at) ≡ node.parent = found.2 ∙ ap (λ (n : PlanNode). n.parent) same in
        let node_up : IsAbove (parent_at nodes) node.parent at =
        subst (λ n. IsAbove (parent_at nodes) n at) parent
        (subst (IsAbove (parent_at nodes) (parent_at nodes (suc at))) one
        (ordered.above (suc at) (omega arith) within)) in
        let behind : IsAbove around (scope_at nodes node.parent) (number_of nodes (at + 1) - 1) =
        above_both around (scope_at nodes node.parent) (scope_at nodes at) (number_of nodes (at + 1) - 1)
        (scopes_up node.parent node_up.steps at (omega arith) node_up.is) (last_scope at (omega arith)) in
        let bound = scope_low (suc at) node.parent (omega arith) (omega arith) in
        let most = number_up (node.parent + 1) (suc at) (omega arith) (omega arith) in
        record {
          low = omega (arith, is_around, bound, most);
          above = subst (λ n. IsAbove around n (number_of nodes (suc at) - 1)) (sym is_around)
              (subst (λ n. IsAbove around (scope_at nodes node.parent) (number_of nodes n - 1)) next behind);
        }

    all_stand : (count : ℕ) → count ≤ length nodes → (number : ℕ) → 0 < number → number < number_of nodes count
        → Stands number
    all_stand zero within number some low = absurd (omega arith)
    all_stand (suc count) within number some low =
        let found = node_there nodes count (omega arith) in
        let one : count + 1 ≡ suc count = omega arith in
        let counted = ap (number_of nodes) (sym one) ∙ count_put nodes count found.0 found.1 in
        by_one found.0 found.1 counted (λ less. all_stand count (omega arith) number some less)
        (has_name count found.0) refl (cases_Bool (nat_lt number (number_of nodes count)))
      where
        by_one : (node : PlanNode) → slice_get nodes count ≡ Some node
            → number_of nodes (suc count) ≡ number_of nodes count + one_if (has_name count node)
            → (number < number_of nodes count → Stands number) → (a : Bool) → has_name count node ≡ a
            → (nat_lt number (number_of nodes count) ≡ true) ⊎ (nat_lt number (number_of nodes count) ≡ false)
            → Stands number
        by_one node is counted behind a e (inl less) =
            let under : number < number_of nodes count = grind (arith, nat_tests) in behind under
        by_one node is counted behind true e (inr more) =
            let above : number_of nodes count ≤ number = grind (arith, nat_tests) in
            let one : one_if (has_name count node) ≡ 1 = ap one_if e in
            let same : number_of nodes count ≡ number = omega (arith, counted, one) in
            subst Stands same (begun_stands count node is (omega arith) e)
        by_one node is counted behind false e (inr more) =
            let above : number_of nodes count ≤ number = grind (arith, nat_tests) in
            let none : one_if (has_name count node) ≡ 0 = ap one_if e in
            absurd (omega (arith, counted, none))

    pub scopes_ordered : AreInPreorder around (length (scopes nodes))
    scopes_ordered =
        let long : length (scopes nodes) ≡ number_of nodes (length nodes) =
        ap length (sym every) ∙ scopes_long (length nodes) (omega arith) in
        record {
          root = refl;
          before = λ number some low. let found = all_stand (length nodes) (omega arith) number some
              (omega (arith, long)) in
              found.low;
          above = λ number some low. let found = all_stand (length nodes) (omega arith) number some
              (omega (arith, long)) in
              found.above;
        }

    pub scope_within : (at : ℕ) → at < length nodes → scope_at nodes at < length (scopes nodes)
    scope_within at within =
        let long : length (scopes nodes) ≡ number_of nodes (length nodes) =
        ap length (sym every) ∙ scopes_long (length nodes) (omega arith) in
        let low = scope_low (suc at) at (omega arith) within in
        let up = number_up (at + 1) (length nodes) (omega arith) (omega arith) in
        omega (arith, long, low, up)
