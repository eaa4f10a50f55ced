-- What is not found: nothing in a scope beyond the table, and no qualified key without a dot.
use Rattle.std.specs.Prelude.{◌≡◌, ◌+◌, ◌<◌, ◌≤◌, ◌==◌, ◌&&◌, ◌++◌, ◌⊎◌, ℕ, zero, suc, Bool, true, false, not, List, [], ◌∷◌, Option, Some, None, codes, filter, find, is_some, length, nat_lt, slice_get}
use Rattle.std.specs.List.{flat_map}
use Rattle.std.specs.Option.{option_map_or}
use Rattle.std.proofs.Common.{refl, sym, ap, ◌∙◌, arith, inl, inr}
use Rattle.std.proofs.lemmas.Bool.{cases_Bool, true≢false}
use Rattle.std.proofs.lemmas.Bool.Decides.{nat_tests}
use Rattle.dita_doc.specs.declared.plan.PlanNode.{PlanNode}
use Rattle.dita_doc.specs.declared.plan.Scope.{Scope}
use Rattle.dita_doc.proofs.Tests.{and_false}
use Rattle.key_scopes.specs.declared.children.ChildName.{ChildName}
use Rattle.key_scopes.specs.Above.{AreInPreorder, parent_in}
use Rattle.key_scopes.specs.Children.{all_names}
use Rattle.key_scopes.specs.Ways.{answers, has_dot, leads, qualified_in}
use Rattle.key_scopes.proofs.ScopeTreeLaws.{begun_within}
use Rattle.key_scopes.proofs.WayLaws.{tried_in}
use Rattle.map_spec.specs.Cascade.{places_up}
use Rattle.map_spec.specs.Scopes.{begins, behind, child_scopes, has_scope_name, is_at_level, is_child_of, is_in_scope, numbered, own, own_places, places, qualified, scope_at, scope_on, scopes}
use Rattle.reader_spec.specs.World.{World}

-- The scope of each node is in the table

found_begins : (nodes : List PlanNode) (some : List ℕ) (at : ℕ) → find (begins nodes) some ≡ Some at
    → begins nodes at ≡ true
found_begins nodes [] at found = cc
found_begins nodes (first ∷ some) at found =
    by_one (λ there. found_begins nodes some at there) (begins nodes first) refl
  where
    by_one : (find (begins nodes) some ≡ Some at → begins nodes at ≡ true) → (a : Bool) → begins nodes first ≡ a
        → begins nodes at ≡ true
    by_one behind true e =
        let there = rw e at found in
        let same : first ≡ at = cc in
        ap (begins nodes) (sym same) ∙ e
    by_one behind false e = behind (rw e at found)

begins_within : (nodes : List PlanNode) (at : ℕ) → begins nodes at ≡ true → at < length nodes
begins_within nodes at begun = by_test (cases_Bool (nat_lt at (length nodes)))
  where
    past : (some : List PlanNode) (n : ℕ) → length some ≤ n → slice_get some n ≡ None
    past [] n out = refl
    past (x ∷ some) zero out = absurd (omega arith)
    past (x ∷ some) (suc n) out = past some n (omega arith)

    none : (a : Bool) (some : Option PlanNode) → some ≡ None
        → (not a && option_map_or has_scope_name some false) ≡ false
    none true some e = refl
    none false some e = rw e refl

    by_test : (nat_lt at (length nodes) ≡ true) ⊎ (nat_lt at (length nodes) ≡ false) → at < length nodes
    by_test (inl low) = grind (arith, nat_tests)
    by_test (inr far) =
        let out : length nodes ≤ at = grind (arith, nat_tests) in
        absurd (true≢false (sym begun ∙ none (at == 0) (slice_get nodes at) (past nodes at out)))

scope_low : (nodes : List PlanNode) (at : ℕ) → scope_at nodes at < length (scopes nodes)
scope_low nodes at = by_found (find (begins nodes) (places_up nodes at)) refl
  where
    by_found : (some : Option ℕ) → find (begins nodes) (places_up nodes at) ≡ some
        → scope_on nodes some < length (scopes nodes)
    by_found None e = omega arith
    by_found (Some place) e =
        let begun = found_begins nodes (places_up nodes at) place e in
        begun_within nodes place (begins_within nodes place begun) begun

-- No node is in a scope beyond it

none_pass : {X : Type 0} (p : X → Bool) (xs : List X) → ((x : X) → p x ≡ false) → filter p xs ≡ []
none_pass p [] none = refl
none_pass p (x ∷ xs) none = rw (none x) (none_pass p xs none)

none_flat : {X Y : Type 0} (f : X → List Y) (xs : List X) → ((x : X) → f x ≡ []) → flat_map f xs ≡ []
none_flat f [] none = refl
none_flat f (x ∷ xs) none = rw (none x) (none_flat f xs none)

pub own_past : (world : World) (nodes : List PlanNode) (scope : ℕ) (key : List ℕ) → length (scopes nodes) ≤ scope
    → own world nodes scope key ≡ None
own_past world nodes scope key out =
    let none : filter (is_in_scope nodes scope) (places nodes) ≡ [] =
    none_pass (is_in_scope nodes scope) (places nodes)
    (λ at. let low = scope_low nodes at in grind (arith, nat_tests, low, out)) in
    let all : own_places nodes scope ≡ [] =
    none_flat (λ level. filter (is_at_level nodes level) (filter (is_in_scope nodes scope) (places nodes)))
    (places nodes) (λ level. ap (filter (is_at_level nodes level)) none) in
    rw all refl

-- No scope is in one beyond it

children_past : (scope at : ℕ) (all : List Scope)
    → ((k : ℕ) (own : Scope) → slice_get all k ≡ Some own → 0 < at + k → (own.parent == scope) ≡ false)
    → filter (is_child_of scope) (numbered at all) ≡ []
children_past scope at [] other = refl
children_past scope at (first ∷ all) other =
    by_root (children_past scope (at + 1) all (λ k own is some. other (suc k) own is (omega (arith, some))))
    (at == 0) refl
  where
    by_root : filter (is_child_of scope) (numbered (at + 1) all) ≡ [] → (a : Bool) → (at == 0) ≡ a
        → filter (is_child_of scope) (numbered at (first ∷ all)) ≡ []
    by_root behind true e = rw e behind
    by_root behind false e =
        let some : 0 < at + 0 = grind (arith, nat_tests) in
        rw (e, other 0 first refl some) behind

pub no_children : (nodes : List PlanNode) (scope : ℕ)
    → AreInPreorder (parent_in (scopes nodes)) (length (scopes nodes)) → length (scopes nodes) ≤ scope
    → child_scopes nodes scope ≡ []
no_children nodes scope ordered out =
    children_past scope 0 (scopes nodes) (λ k own is some.
    let within = inside (scopes nodes) k own is in
    let up = ordered.before k (omega (arith, some)) within in
    let parent : parent_in (scopes nodes) k ≡ own.parent =
    ap (λ one. option_map_or (λ (scope : Scope). scope.parent) one 0) is in
    grind (arith, nat_tests, up, parent, within, out))
  where
    inside : (all : List Scope) (k : ℕ) (own : Scope) → slice_get all k ≡ Some own → k < length all
    inside [] k own is = cc
    inside (x ∷ all) zero own is = omega arith
    inside (x ∷ all) (suc k) own is = let behind = inside all k own is in omega (arith, behind)

pub qualified_past : (steps : ℕ) (world : World) (nodes : List PlanNode) (scope : ℕ) (key : List ℕ)
    → AreInPreorder (parent_in (scopes nodes)) (length (scopes nodes)) → length (scopes nodes) ≤ scope
    → qualified steps world nodes scope key ≡ None
unfolding qualified
qualified_past zero world nodes scope key ordered out = refl
qualified_past (suc steps) world nodes scope key ordered out = rw (no_children nodes scope ordered out) refl

-- A key without a dot

no_dot : (name key : List ℕ) → has_dot key ≡ false → behind (name ++ codes ".") key ≡ None
no_dot [] [] none = refl
no_dot [] (c ∷ key) none = by_one (c == 46) refl
  where
    by_one : (a : Bool) → (c == 46) ≡ a → behind (codes ".") (c ∷ key) ≡ None
    by_one true e = let there = rw e at none in absurd (true≢false there)
    by_one false e = let other : (46 == c) ≡ false = grind (arith, nat_tests) in rw other refl
no_dot (b ∷ name) [] none = refl
no_dot (b ∷ name) (c ∷ key) none =
    by_one (λ less. no_dot name key less) (c == 46) (b == c) refl refl
  where
    by_one : (has_dot key ≡ false → behind (name ++ codes ".") key ≡ None) → (d a : Bool) → (c == 46) ≡ d → (b == c) ≡ a
        → behind ((b ∷ name) ++ codes ".") (c ∷ key) ≡ None
    by_one more true a e f = let there = rw e at none in absurd (true≢false there)
    by_one more false true e f = rw f (more (rw e at none))
    by_one more false false e f = rw f refl

none_leads : (scope : ℕ) (key : List ℕ) (names : List ChildName) → has_dot key ≡ false
    → filter (leads scope key) names ≡ []
none_leads scope key [] none = refl
none_leads scope key (name ∷ names) none =
    let no : leads scope key name ≡ false =
    ap (λ rest. (name.parent == scope) && is_some rest) (no_dot name.name key none) ∙ and_false (name.parent == scope) in
    rw no (none_leads scope key names none)

pub qualified_without : (steps : ℕ) (all : List Scope) (own_at : ℕ → List ℕ → Option ℕ) (scope : ℕ) (key : List ℕ)
    → has_dot key ≡ false → qualified_in steps all own_at scope key ≡ None
unfolding qualified_in
qualified_without zero all own_at scope key none = refl
qualified_without (suc steps) all own_at scope key none =
    ap (answers (tried_in steps all own_at) key) (none_leads scope key (all_names all) none)
