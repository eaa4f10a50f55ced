-- What the elements of nodes say, and which nodes stand in relationship tables.
use Rattle.std.specs.Prelude.{◌≡◌, ◌<◌, ℕ, zero, suc, Bool, false, List, [], ◌∷◌, Option, Some, None, codes, length, map, option_map, slice_get, unwrap_or}
use Rattle.std.specs.Option.{option_and_then}
use Rattle.std.proofs.Common.{refl, sym, ap, ◌∙◌, arith}
use Rattle.std.proofs.lemmas.List.{take_all}
use Rattle.std.proofs.lemmas.Option.{slice_get-map}
use Rattle.dita_doc.specs.declared.plan.Plan.{Plan}
use Rattle.dita_doc.specs.declared.plan.PlanNode.{PlanNode}
use Rattle.map_spec.specs.Cascade.{attribute_at, is_in_table, walk}
use Rattle.map_spec.specs.Cascade as cascade
use Rattle.map_spec.specs.Scopes.{places}
use Rattle.map_spec.specs.Titles.{first_text}
use Rattle.map_spec.specs.Written.{Whole}
use Rattle.html_spec.specs.Contents.{contents_title}
use Rattle.plan_nodes.specs.Home.{value_at, whole_at}
use Rattle.plan_nodes.specs.Preorder.{is_in_table_at, tables_around}
use Rattle.plan_nodes.proofs.HomeLaws.{value_by}
use Rattle.plan_nodes.proofs.PlaceLaws.{known_at}
use Rattle.reader_spec.specs.World.{World}
use Rattle.toc_page.specs.Toc.{title_in}

-- Elements of nodes

pub whole_same : (world : World) (homes : List (Option Whole)) (nodes : List PlanNode) (at : ℕ) (node : PlanNode)
    → homes ≡ map (cascade.whole_at world) nodes → slice_get nodes at ≡ Some node
    → whole_at homes at ≡ cascade.whole_at world node
whole_same world homes nodes at node same there =
    ap (λ all. whole_at all at) same
    ∙ ap (option_and_then (λ (whole : Option Whole). whole))
    (slice_get-map (cascade.whole_at world) nodes at ∙ ap (option_map (cascade.whole_at world)) there)

-- the same at each place
pub value_known : (world : World) (homes : List (Option Whole)) (nodes : List PlanNode) (at : ℕ) (name : List ℕ)
    → homes ≡ map (cascade.whole_at world) nodes
    → value_at homes at name ≡ option_and_then (attribute_at world name) (slice_get nodes at)
value_known world homes nodes at name same =
    ap (λ all. value_at all at name) same
    ∙ rw (slice_get-map (cascade.whole_at world) nodes at) (value_by world name (slice_get nodes at))

-- the element at each place
whole_by : (world : World) (node : Option PlanNode)
    → option_and_then (λ (whole : Option Whole). whole) (option_map (cascade.whole_at world) node)
    ≡ option_and_then (cascade.whole_at world) node
whole_by world None = refl
whole_by world (Some node) = refl

pub whole_known : (world : World) (homes : List (Option Whole)) (nodes : List PlanNode) (at : ℕ)
    → homes ≡ map (cascade.whole_at world) nodes
    → whole_at homes at ≡ option_and_then (cascade.whole_at world) (slice_get nodes at)
whole_known world homes nodes at same =
    ap (λ all. whole_at all at) same
    ∙ rw (slice_get-map (cascade.whole_at world) nodes at) (whole_by world (slice_get nodes at))

-- the title of the page
pub title_known : (world : World) (plan : Plan) (homes : List (Option Whole))
    → homes ≡ map (cascade.whole_at world) plan.nodes
    → first_text (title_in (whole_at homes 0) ∷ codes "Contents" ∷ []) ≡ contents_title world plan
title_known world plan homes same = ap (λ whole. first_text (title_in whole ∷ codes "Contents" ∷ []))
    (whole_known world homes plan.nodes 0 same)

-- Relationship tables

get_within : (nodes : List PlanNode) (at : ℕ) (node : PlanNode) → slice_get nodes at ≡ Some node → at < length nodes
get_within [] zero node there = cc
get_within [] (suc at) node there = cc
get_within (first ∷ nodes) zero node there = omega arith
get_within (first ∷ nodes) (suc at) node there = let less = get_within nodes at node there in omega (arith, less)

pub table_known : (nodes : List PlanNode) (inside : List Bool) (at : ℕ) (node : PlanNode)
    → inside ≡ tables_around nodes → slice_get nodes at ≡ Some node
    → unwrap_or (slice_get inside at) false ≡ is_in_table (walk nodes at)
table_known nodes inside at node same there =
    ap (λ all. unwrap_or (slice_get all at) false)
    (same ∙ ap (λ some. map (is_in_table_at nodes) (places some)) (sym (take_all (length nodes) nodes (omega arith))))
    ∙ ap (λ found. unwrap_or found false)
    (known_at (is_in_table_at nodes) nodes at (length nodes) (get_within nodes at node there) (omega arith))
