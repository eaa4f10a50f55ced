-- More steps than the contents page takes change nothing: a node stands behind its parent.
use Rattle.std.specs.Prelude.{◌≡◌, ◌≤◌, ◌<◌, ◌+◌, ◌++◌, ◌==◌, ℕ, zero, suc, Bool, true, false, List, [], ◌∷◌, Option, Some, None, filter, length, slice_get}
use Rattle.std.specs.List.{flat_map}
use Rattle.std.specs.Option.{option_map_or}
use Rattle.std.proofs.Common.{refl, sym, ap, ap₂, ◌∙◌, arith}
use Rattle.std.proofs.lemmas.Bool.{and_parts, eqb-false, eqb-true, not-true}
use Rattle.std.proofs.lemmas.Option.{slice_get_within}
use Rattle.dita_doc.specs.declared.plan.Plan.{Plan}
use Rattle.dita_doc.specs.declared.plan.PlanNode.{PlanNode}
use Rattle.reader_spec.specs.World.{World}
use Rattle.map_spec.specs.Scopes.{places}
use Rattle.html_spec.specs.Contents.{items_from, node_items}
use Rattle.link_spec.specs.Links.{is_child}
use Rattle.language_laws.specs.Steps.{HasParentsBefore, ItemsIsWhole}

-- What a filter keeps

-- two functions give the same of what passes a test if they agree on it
one_kept : {X Y : Type 0} (test : X → Bool) (f g : X → List Y) (x : X) (xs : List X) (passes : Bool) → test x ≡ passes
    → (test x ≡ true → f x ≡ g x) → flat_map f (filter test xs) ≡ flat_map g (filter test xs)
    → flat_map f (filter test (x ∷ xs)) ≡ flat_map g (filter test (x ∷ xs))
one_kept test f g x xs true e same more = rw e (ap₂ ◌++◌ (same e) more)
one_kept test f g x xs false e same more = rw e more

-- the same for whole lists
kept_same : {X Y : Type 0} (test : X → Bool) (f g : X → List Y) (xs : List X) → ((x : X) → test x ≡ true → f x ≡ g x)
    → flat_map f (filter test xs) ≡ flat_map g (filter test xs)
kept_same test f g [] same = refl
kept_same test f g (x ∷ xs) same = one_kept test f g x xs (test x) refl (same x) (kept_same test f g xs same)

-- nothing is given where no element gives anything
none_given : {X Y : Type 0} (xs : List X) → flat_map {X = X} {A = Y} (λ x. []) xs ≡ []
none_given [] = refl
none_given (x ∷ xs) = none_given xs

-- Children

-- a node with this parent stands behind it, and among the nodes
behind_parent : (nodes : List PlanNode) (parent at : ℕ) (found : Option PlanNode) → HasParentsBefore nodes → 0 < at
    → slice_get nodes at ≡ found → option_map_or (λ (node : PlanNode). node.parent == parent) found false ≡ true
    → (parent < at) × (at < length nodes)
behind_parent nodes parent at None before some is e = absurd (cc)
behind_parent nodes parent at (Some node) before some is e =
    (omega (arith, before at node some is, eqb-true node.parent parent e), slice_get_within nodes at node is)

-- a child stands behind its parent, and among the nodes
child_behind : (plan : Plan) (parent at : ℕ) → HasParentsBefore plan.nodes → is_child plan parent at ≡ true
    → (parent < at) × (at < length plan.nodes)
child_behind plan parent at before e =
    let parts = and_parts _ _ e in
    let other = eqb-false at 0 (not-true (at == 0) parts.0) in
    behind_parent plan.nodes parent at (slice_get plan.nodes at) before (omega arith) refl parts.1

-- Items

-- below a node behind which none stands there is no item
no_items : (steps : ℕ) (world : World) (plan : Plan) (parent : ℕ) → HasParentsBefore plan.nodes
    → length plan.nodes ≤ parent → items_from steps world plan parent ≡ []
unfolding items_from
no_items zero world plan parent before last = refl
no_items (suc steps) world plan parent before last =
    kept_same (is_child plan parent) _ (λ at. []) (places plan.nodes)
    (λ at is. absurd (omega (arith, child_behind plan parent at before is)))
    ∙ none_given (filter (is_child plan parent) (places plan.nodes))

-- the items below a node are the same by any two numbers of steps that reach from it to the last node
items_same : (n m : ℕ) (world : World) (plan : Plan) (parent : ℕ) → HasParentsBefore plan.nodes
    → length plan.nodes ≤ n + parent → length plan.nodes ≤ m + parent
    → items_from n world plan parent ≡ items_from m world plan parent
unfolding items_from
items_same zero m world plan parent before first second = sym (no_items m world plan parent before (omega arith))
items_same (suc n) zero world plan parent before first second =
    no_items (suc n) world plan parent before (omega arith)
items_same (suc n) (suc m) world plan parent before first second =
    kept_same (is_child plan parent) _ _ (places plan.nodes) (λ at is.
    let behind = child_behind plan parent at before is in
    ap (λ below. option_map_or (node_items world plan at below) (slice_get plan.nodes at) [])
    (items_same n m world plan at before (omega arith) (omega arith)))

-- the items have as many steps as they take
pub items_are_whole : ItemsIsWhole
items_are_whole world plan more before =
    items_same (length plan.nodes + more) (length plan.nodes) world plan 0 before (omega arith) (omega arith)
