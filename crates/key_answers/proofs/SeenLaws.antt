-- What is seen of nodes is what they have in the world that their elements are from.
use Rattle.std.specs.Prelude.{◌≡◌, ◌+◌, ◌==◌, ◌++◌, ℕ, suc, Bool, true, false, List, [], ◌∷◌, Option, Some, None, codes, find, map, option_map, slice_get, unwrap_or}
use Rattle.std.specs.Option.{option_and_then, option_map_or}
use Rattle.std.proofs.Common.{refl, sym, ap, ◌∙◌, arith}
use Rattle.std.proofs.lemmas.Option.{slice_get-map}
use Rattle.dita_doc.specs.declared.plan.PlanNode.{PlanNode}
use Rattle.map_spec.specs.Cascade as cascade
use Rattle.map_spec.specs.Cascade.{places_up, steps_up}
use Rattle.map_spec.specs.Elements.{attribute}
use Rattle.map_spec.specs.Keys.{attribute_of, metadata_texts, text_of_definition, texts_of_node}
use Rattle.map_spec.specs.Scopes.{begins, scope_at, scope_on}
use Rattle.map_spec.specs.Titles.{first_text}
use Rattle.map_spec.specs.Written.{Whole}
use Rattle.plan_nodes.specs.Carried.{CarryScopes}
use Rattle.plan_nodes.specs.Home.{value_at}
use Rattle.reader_spec.specs.World.{World}
use Rattle.plan_nodes.proofs.HomeLaws.{value_by}
use Rattle.key_answers.specs.Seen.{scope_seen, text_seen, texts_of_whole}

-- Values

pub value_same : (world : World) (homes : List (Option Whole)) (nodes : List PlanNode) (at : ℕ) (name : List ℕ)
    → homes ≡ map (cascade.whole_at world) nodes → value_at homes at name ≡ attribute_of world nodes name at
value_same world homes nodes at name same =
    ap (λ all. value_at all at name) same
    ∙ rw (slice_get-map (cascade.whole_at world) nodes at) (value_by world name (slice_get nodes at))

-- Scopes

-- a place beyond the nodes is in the root scope
scope_beyond : (nodes : List PlanNode) (at : ℕ) → slice_get nodes at ≡ None → 0 ≡ scope_at nodes at
scope_beyond nodes at none =
    let more : at + 1 ≡ suc at = omega arith in
    by_root (at == 0) refl
    ∙ ap (λ steps. scope_on nodes (find (begins nodes) (steps_up steps nodes at))) (sym more)
  where
    by_root : (root : Bool) → (at == 0) ≡ root → 0 ≡ scope_on nodes (find (begins nodes) (steps_up (suc at) nodes at))
    by_root true e = rw e refl
    by_root false e = rw (e, none) refl

pub scope_same : (nodes : List PlanNode) (at : ℕ) → CarryScopes nodes → scope_seen nodes at ≡ scope_at nodes at
scope_same nodes at carry = by_node (slice_get nodes at) refl
  where
    by_node : (node : Option PlanNode) → slice_get nodes at ≡ node
        → option_map_or (λ (n : PlanNode). n.scope) node 0 ≡ scope_at nodes at
    by_node None e = scope_beyond nodes at e
    by_node (Some node) e = carry.each at node e

-- Texts

text_of_whole : (whole : Option Whole)
    → option_map_or (λ (w : Whole). first_text (texts_of_whole w)) whole []
    ≡ first_text (option_map_or (λ (w : Whole). metadata_texts w.1) whole []
    ++ unwrap_or (option_and_then (λ (w : Whole). attribute (codes "navtitle") w.0) whole) [] ∷ [])
text_of_whole None = refl
text_of_whole (Some whole) = refl

text_by : (world : World) (node : Option PlanNode)
    → option_map_or (λ (whole : Whole). first_text (texts_of_whole whole))
    (option_and_then (λ (whole : Option Whole). whole) (option_map (cascade.whole_at world) node)) []
    ≡ option_map_or (λ (n : PlanNode). first_text (texts_of_node world n)) node []
text_by world None = refl
text_by world (Some node) = text_of_whole (cascade.whole_at world node)

text_same : (world : World) (homes : List (Option Whole)) (nodes : List PlanNode) (at : ℕ)
    → homes ≡ map (cascade.whole_at world) nodes → text_seen homes at ≡ text_of_definition world nodes at
text_same world homes nodes at same =
    ap (λ all. text_seen all at) same
    ∙ rw (slice_get-map (cascade.whole_at world) nodes at) (text_by world (slice_get nodes at))

pub texts_same : (world : World) (homes : List (Option Whole)) (nodes : List PlanNode) (met : List ℕ)
    → homes ≡ map (cascade.whole_at world) nodes
    → map (text_seen homes) met ≡ map (text_of_definition world nodes) met
texts_same world homes nodes [] same = refl
texts_same world homes nodes (at ∷ met) same =
    ap (λ text. text ∷ map (text_seen homes) met) (text_same world homes nodes at same)
    ∙ ap (λ texts. text_of_definition world nodes at ∷ texts) (texts_same world homes nodes met same)
