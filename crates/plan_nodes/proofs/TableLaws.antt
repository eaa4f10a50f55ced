-- Whether a node stands in a relationship table, by its parent.
use Rattle.std.specs.Prelude.{◌≡◌, ◌+◌, ◌<◌, ◌||◌, ℕ, zero, suc, Bool, true, false, List, [], ◌∷◌, ◌++◌, Some, length, slice_get, unwrap_or}
use Rattle.std.proofs.Common.{refl, sym, ap, ◌∙◌, arith, get_or}
use Rattle.dita_doc.specs.declared.plan.PlanNode.{PlanNode}
use Rattle.dita_doc.proofs.Lists.{get_read}
use Rattle.map_spec.specs.Cascade.{is_in_table}
use Rattle.map_spec.specs.Included.{is_table}
use Rattle.plan_nodes.proofs.PlaceLaws.{known, known_at, known_more, walk_root, walk_up}
use Rattle.plan_nodes.specs.Preorder.{HasParentsBefore, is_in_table_at}

or_comm : (a b : Bool) → (a || b) ≡ (b || a)
or_comm true true = refl
or_comm true false = refl
or_comm false true = refl
or_comm false false = refl

-- what is known of the places before one
abbrev tables : List PlanNode → ℕ → List Bool
tables nodes count = known (is_in_table_at nodes) nodes count

in_table_by : (nodes : List PlanNode) → HasParentsBefore nodes → (at : ℕ) (node : PlanNode)
    → slice_get nodes at ≡ Some node → at < length nodes
    → (unwrap_or (slice_get (tables nodes at) node.parent) false || is_table node.kind) ≡ is_in_table_at nodes at
in_table_by nodes before zero node is within =
    or_comm false (is_table node.kind) ∙ ap is_in_table (sym (walk_root nodes node is))
in_table_by nodes before (suc at) node is within =
    let up = before (suc at) node (omega arith) is in
    ap (λ told. unwrap_or told false || is_table node.kind)
    (known_at (is_in_table_at nodes) nodes node.parent (suc at) up (omega arith))
    ∙ or_comm (is_in_table_at nodes node.parent) (is_table node.kind)
    ∙ ap is_in_table (sym (walk_up nodes before (suc at) node is (omega arith)))

-- what is told of the places before one, and of it, is what is known one place further
pub table_more : (nodes : List PlanNode) (at : ℕ) (node : PlanNode) (told : List Bool) (within : Bool)
    → HasParentsBefore nodes → at < length nodes → node ≡ get_or nodes at node → told ≡ tables nodes at
    → within ≡ (unwrap_or (slice_get told node.parent) false || is_table node.kind)
    → told ++ within ∷ [] ≡ tables nodes (at + 1)
table_more nodes at node told within before fits item same by =
    ap (λ last. told ++ last ∷ []) (by
    ∙ ap (λ some. unwrap_or (slice_get some node.parent) false || is_table node.kind) same
    ∙ in_table_by nodes before at node (get_read nodes at node fits item) fits)
    ∙ ap (λ some. some ++ is_in_table_at nodes at ∷ []) same
    ∙ sym (known_more (is_in_table_at nodes) nodes at node fits)
