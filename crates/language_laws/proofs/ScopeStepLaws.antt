-- More steps than the search of a scope and of those around it takes change nothing: a parent has a lower number.
use Rattle.std.specs.Prelude.{◌≡◌, ◌≤◌, ◌<◌, ◌+◌, ◌==◌, ℕ, zero, suc, Bool, true, false, List, [], ◌∷◌, Option, Some, None, IfSome, count_by, cond, filter, find, option_map, slice_get, take}
use Rattle.std.specs.List.{cons_option, filter_map}
use Rattle.std.specs.Option.{option_map_or, option_or}
use Rattle.std.proofs.Common.{refl, sym, subst, ap, add-one, arith}
use Rattle.std.proofs.lemmas.Bool.{and_parts, cond-true, cond_both, eq-eqb, eqb-false, ne_eqb, not-true}
use Rattle.std.proofs.lemmas.List.Sums.{sum_by-cons}
use Rattle.dita_doc.specs.declared.plan.PlanNode.{PlanNode}
use Rattle.dita_doc.specs.declared.plan.Scope.{Scope}
use Rattle.reader_spec.specs.World.{World}
use Rattle.map_spec.specs.Cascade.{places_up, steps_up}
use Rattle.map_spec.specs.Scopes.{begins, found_from, has_scope_name, number_of, own_or_qualified, parent_of, places, places_from, scope_at, scope_begun, scope_on}
use Rattle.language_laws.specs.Steps.{FoundIsWhole, HasParentsBefore}
use Rattle.language_laws.proofs.ChoiceLaws.{both_same}
use Rattle.language_laws.proofs.ListLaws.{AllFrom, at_place}

-- Counts of a list's beginning

module _ {X : Type 0} (test : X → Bool) where
  -- 1 for an element that passes, else 0
  abbrev one_if : X → ℕ
  one_if x = cond (test x) 1 0

  -- an element more counts if it passes
  count_next : (xs : List X) (k : ℕ)
      → count_by test (take (suc k) xs)
      ≡ count_by test (take k xs) + cond (option_map_or test (slice_get xs k) false) 1 0
  count_next [] zero = refl
  count_next [] (suc k) = refl
  count_next (x ∷ xs) zero = omega arith
  count_next (x ∷ xs) (suc k) =
      omega (arith, count_next xs k, sum_by-cons one_if x (take (suc k) xs), sum_by-cons one_if x (take k xs))

  -- an element that passes counts for each longer beginning
  count_behind : (xs : List X) (k n : ℕ) → k < n → option_map_or test (slice_get xs k) false ≡ true
      → count_by test (take k xs) < count_by test (take n xs)
  count_behind xs k zero below passes = absurd (omega arith)
  count_behind [] k (suc n) below passes = absurd (cc)
  count_behind (x ∷ xs) zero (suc n) below passes =
      omega (arith, sum_by-cons one_if x (take n xs), cond-true {A = ℕ} (test x) 1 0 passes)
  count_behind (x ∷ xs) (suc k) (suc n) below passes =
      omega (
        arith,
        count_behind xs k n (omega arith) passes,
        sum_by-cons one_if x (take k xs),
        sum_by-cons one_if x (take n xs),
      )

-- The numbers of scopes

-- a node that begins a scope is not the root, and has a name for it
begun_parts : (nodes : List PlanNode) (at : ℕ) → begins nodes at ≡ true
    → (0 < at) × (option_map_or has_scope_name (slice_get nodes at) false ≡ true)
begun_parts nodes at e =
    let parts = and_parts _ _ e in
    let other = eqb-false at 0 (not-true (at == 0) parts.0) in (omega arith, parts.1)

-- a number goes on by one behind a node that begins a scope
number_next : (nodes : List PlanNode) (at : ℕ)
    → number_of nodes (suc at) ≡ number_of nodes at + cond (begins nodes at) 1 0
number_next [] zero = refl
number_next (root ∷ rest) zero = refl
number_next [] (suc at) = rw (ne_eqb (suc at) 0 (λ e. omega arith)) refl
number_next (root ∷ rest) (suc at) =
    rw (ne_eqb (suc at) 0 (λ e. omega arith)) (omega (arith, count_next has_scope_name rest at))

-- the same where it is known whether the node begins one
number_after : (nodes : List PlanNode) (at : ℕ) (test : Bool) → begins nodes at ≡ test
    → number_of nodes (suc at) ≡ number_of nodes at + cond test 1 0
number_after nodes at test e =
    subst (λ test. number_of nodes (suc at) ≡ number_of nodes at + cond test 1 0) e (number_next nodes at)

-- a node behind one that begins a scope has a higher number
number_behind : (nodes : List PlanNode) (first at : ℕ) → first < at → begins nodes first ≡ true
    → number_of nodes first < number_of nodes at
number_behind nodes zero at below e = absurd (omega (arith, (begun_parts nodes zero e).0))
number_behind nodes (suc first) zero below e = absurd (omega arith)
number_behind [] (suc first) (suc at) below e = absurd (cc (begun_parts [] (suc first) e).1)
number_behind (root ∷ rest) (suc first) (suc at) below e =
    omega (arith, count_behind has_scope_name rest first at (omega arith) (begun_parts (root ∷ rest) (suc first) e).1)

-- The scope around a node

-- a place before another that begins a scope
abbrev BeginsBefore : List PlanNode → ℕ → ℕ → Type 0
BeginsBefore nodes last at = (at < last) × (begins nodes at ≡ true)

-- what is found on the way on from a node stands before the same place
found_on : (nodes : List PlanNode) (last at : ℕ) (up : ℕ → List ℕ) (found : Option PlanNode) → HasParentsBefore nodes
    → 0 < at → at < last → slice_get nodes at ≡ found
    → ((parent : ℕ) → parent < last → IfSome (find (begins nodes) (up parent)) (BeginsBefore nodes last))
    → IfSome (find (begins nodes) (option_map_or (λ (node : PlanNode). up node.parent) found []))
    (BeginsBefore nodes last)
found_on nodes last at up None before some below is more = tt
found_on nodes last at up (Some node) before some below is more =
    more node.parent (omega (arith, before at node some is))

-- what is found on the walk from a node to the root stands before each place behind the node
found_up : (steps : ℕ) (nodes : List PlanNode) (last at : ℕ) → HasParentsBefore nodes → at < last
    → IfSome (find (begins nodes) (steps_up steps nodes at)) (BeginsBefore nodes last)
found_up zero nodes last at before below = tt
found_up (suc steps) nodes last at before below =
    cond_both (begins nodes at) (Some at) _ (λ found. IfSome found (BeginsBefore nodes last)) (λ e. (below, e)) (λ e.
    cond_both (at == 0) [] _ (λ places. IfSome (find (begins nodes) places) (BeginsBefore nodes last)) (λ root. tt)
    (λ root. let other = eqb-false at 0 root in
    found_on nodes last at (steps_up steps nodes) (slice_get nodes at) before (omega arith) below refl
    (λ parent before_last. found_up steps nodes last parent before before_last)))

-- the scope that was found has a lower number than each node behind
found_lower : (nodes : List PlanNode) (at : ℕ) (found : Option ℕ) → IfSome found (BeginsBefore nodes at)
    → scope_on nodes found < number_of nodes at
found_lower nodes at None is = omega arith
found_lower nodes at (Some first) is = number_behind nodes first at is.0 is.1

-- so has the scope of a node before
scope_lower : (nodes : List PlanNode) (first at : ℕ) → HasParentsBefore nodes → first < at
    → scope_at nodes first < number_of nodes at
scope_lower nodes first at before below =
    found_lower nodes at (find (begins nodes) (places_up nodes first))
    (found_up (first + 1) nodes at first before below)

-- Scopes

-- a scope has a higher number than its parent
abbrev IsAbove : ℕ → Scope → Type 0
IsAbove number scope = scope.parent < number

-- the scopes that are begun at some places
abbrev scopes_begun : List PlanNode → List ℕ → List Scope
scopes_begun nodes ats =
    filter_map (λ at. option_map (scope_begun nodes at) (slice_get nodes at)) (filter (begins nodes) ats)

-- the scope that a node begins, before others
scope_above : (nodes : List PlanNode) (at : ℕ) (others : List ℕ) (found : Option PlanNode) → HasParentsBefore nodes
    → begins nodes at ≡ true → slice_get nodes at ≡ found
    → AllFrom IsAbove (number_of nodes (suc at)) (scopes_begun nodes others)
    → AllFrom IsAbove (number_of nodes at)
    (cons_option (option_map (scope_begun nodes at) found) (scopes_begun nodes others))
scope_above nodes at others None before e is more =
    let named : option_map_or has_scope_name None false ≡ true =
    subst (λ found. option_map_or has_scope_name found false ≡ true) is (begun_parts nodes at e).1 in absurd (cc)
scope_above nodes at others (Some node) before e is more = (
  scope_lower nodes node.parent at before (before at node (begun_parts nodes at e).0 is),
  subst (λ number. AllFrom IsAbove number (scopes_begun nodes others)) (number_after nodes at true e) more,
)

-- whatever a node begins, before others
one_above : (nodes : List PlanNode) (at : ℕ) (others : List ℕ) (test : Bool) → HasParentsBefore nodes
    → begins nodes at ≡ test → AllFrom IsAbove (number_of nodes (suc at)) (scopes_begun nodes others)
    → AllFrom IsAbove (number_of nodes at) (scopes_begun nodes (at ∷ others))
one_above nodes at others true before e more =
    rw e (scope_above nodes at others (slice_get nodes at) before e refl more)
one_above nodes at others false before e more =
    let same : number_of nodes (suc at) ≡ number_of nodes at = omega (arith, number_after nodes at false e) in
    let here : AllFrom IsAbove (number_of nodes at) (scopes_begun nodes others) =
    subst (λ number. AllFrom IsAbove number (scopes_begun nodes others)) same more in
    rw e here

-- the scopes that are begun from a place on
all_above : (nodes : List PlanNode) (at : ℕ) (rest : List PlanNode) → HasParentsBefore nodes
    → AllFrom IsAbove (number_of nodes at) (scopes_begun nodes (places_from at rest))
all_above nodes at [] before = tt
all_above nodes at (node ∷ rest) before =
    one_above nodes at (places_from (at + 1) rest) (begins nodes at) before refl
    (subst (λ next. AllFrom IsAbove (number_of nodes next) (scopes_begun nodes (places_from (at + 1) rest)))
    (add-one at) (all_above nodes (at + 1) rest before))

-- the scope at a place of these, or the root scope in place of one past their end
above_at : (begun : List Scope) (k : ℕ) (found : Option Scope) → AllFrom IsAbove 1 begun → slice_get begun k ≡ found
    → option_map_or (λ (scope : Scope). scope.parent) found 0 < suc k
above_at begun k None all is = omega arith
above_at begun k (Some scope) all is = omega (arith, at_place IsAbove 1 begun all k scope is)

-- a scope other than the root scope has a higher number than its parent
parent_lower : (nodes : List PlanNode) (scope : ℕ) → HasParentsBefore nodes → 0 < scope → parent_of nodes scope < scope
parent_lower nodes zero before some = absurd (omega arith)
parent_lower nodes (suc k) before some =
    let begun = scopes_begun nodes (places nodes) in
    above_at begun k (slice_get begun k) (all_above nodes 0 nodes before) refl

-- The search

-- two searches of as many steps as the number of the scope, or more, are one
found_same : (n m : ℕ) (world : World) (nodes : List PlanNode) (scope : ℕ) (key : List ℕ) → HasParentsBefore nodes
    → scope ≤ n → scope ≤ m → found_from n world nodes scope key ≡ found_from m world nodes scope key
unfolding found_from
found_same zero zero world nodes scope key before first second = refl
found_same zero (suc m) world nodes scope key before first second =
    sym (cond-true (scope == 0) _ _ (eq-eqb scope 0 (omega arith)))
found_same (suc n) zero world nodes scope key before first second =
    cond-true (scope == 0) _ _ (eq-eqb scope 0 (omega arith))
found_same (suc n) (suc m) world nodes scope key before first second =
    both_same (scope == 0) _ _ _ _ (λ root. refl) (λ root.
    let other = eqb-false scope 0 root in
    let lower : parent_of nodes scope < scope = parent_lower nodes scope before (omega arith) in
    ap (λ found. option_or found (own_or_qualified world nodes scope key))
    (found_same n m world nodes (parent_of nodes scope) key before (omega arith) (omega arith)))

-- the search has as many steps as it takes
pub found_is_whole : FoundIsWhole
found_is_whole world nodes scope more key before =
    found_same (scope + more) scope world nodes scope key before (omega arith) (omega arith)
