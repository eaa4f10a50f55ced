-- The nodes of collections: what they say of their places, and their order.
use Rattle.std.specs.Prelude.{◌≡◌, ◌+◌, ◌<◌, ◌≤◌, ◌==◌, ◌&&◌, ℕ, suc, zero, Bool, true, false, List, [], ◌∷◌, Option, Some, None, filter, length, map, option_map, slice_get, if◌then◌else◌}
use Rattle.std.specs.List.{All, filter_map, list_any}
use Rattle.std.specs.List.Sorted.{IsNonDecreasingBy}
use Rattle.std.specs.Option.{option_and_then}
use Rattle.std.proofs.Common.{refl, sym, ap, ◌∙◌, arith, get_or}
use Rattle.std.proofs.lemmas.Bool.{eqb-true}
use Rattle.std.proofs.lemmas.List.Elements.{All-cons, All-nil}
use Rattle.std.proofs.lemmas.Option.{same_Some, slice_get_within}
use Rattle.dita_doc.specs.declared.plan.Plan.{Plan}
use Rattle.dita_doc.specs.declared.plan.PlanNode.{PlanNode}
use Rattle.link_groups.specs.LinkNodes.{is_source_at, is_target_at, link_node_at, with_page}
use Rattle.link_groups.specs.declared.link_nodes.LinkNode.{LinkNode}
use Rattle.map_spec.specs.Pages.{local_name, page_for}
use Rattle.map_spec.specs.Scopes.{places_from}
use Rattle.link_spec.specs.Links.{context_of, page_of_node, plan_target}
use Rattle.reader_spec.specs.World.{World}

abbrev pub place_of : LinkNode → ℕ
place_of node = node.at

abbrev pub is_place : ℕ → LinkNode → Bool
is_place at node = node.at == at

-- What a node says of its place

pub record IsNode (world : World) (plan : Plan) (node : LinkNode) : Type 0 where
  pub is : link_node_at world plan node.at ≡ Some node

module _ (world : World) (plan : Plan) where
  with_a_page : (at : ℕ) (node : LinkNode) (page : Option ℕ) → option_map (with_page world plan at) page ≡ Some node
      → page ≡ Some node.page
  with_a_page at node None is = cc
  with_a_page at node (Some page) is =
      ap (λ (n : LinkNode). Some n.page) (same_Some (with_page world plan at page) node is)

  at_place : (at : ℕ) (node : LinkNode) (page : Option ℕ) → option_map (with_page world plan at) page ≡ Some node
      → node.at ≡ at
  at_place at node None is = cc
  at_place at node (Some page) is =
      sym (ap (λ (n : LinkNode). n.at) (same_Some (with_page world plan at page) node is))

  with_source : (at : ℕ) (node : LinkNode) (page : Option ℕ) → option_map (with_page world plan at) page ≡ Some node
      → is_source_at world plan at ≡ node.is_source
  with_source at node None is = cc
  with_source at node (Some page) is =
      ap (λ (n : LinkNode). n.is_source) (same_Some (with_page world plan at page) node is)

  with_target : (at : ℕ) (node : LinkNode) (page : Option ℕ) → option_map (with_page world plan at) page ≡ Some node
      → is_target_at world plan at ≡ node.is_target
  with_target at node None is = cc
  with_target at node (Some page) is =
      ap (λ (n : LinkNode). n.is_target) (same_Some (with_page world plan at page) node is)

  pub node_page : (node : LinkNode) → IsNode world plan node → page_of_node plan node.at ≡ Some node.page
  node_page node is = with_a_page node.at node (page_of_node plan node.at) is.is

  pub node_source : (node : LinkNode) → IsNode world plan node → is_source_at world plan node.at ≡ node.is_source
  node_source node is = with_source node.at node (page_of_node plan node.at) is.is

  pub node_target : (node : LinkNode) → IsNode world plan node → is_target_at world plan node.at ≡ node.is_target
  node_target node is = with_target node.at node (page_of_node plan node.at) is.is

  pub found_place : (at : ℕ) (node : LinkNode) → link_node_at world plan at ≡ Some node → node.at ≡ at
  found_place at node is = at_place at node (page_of_node plan at) is

  pub found_node : (at : ℕ) (node : LinkNode) → link_node_at world plan at ≡ Some node → IsNode world plan node
  found_node at node is = record { is = ap (link_node_at world plan) (found_place at node is) ∙ is }

  -- it is one of the plan's nodes
  no_name : (at : ℕ) (found : Option PlanNode) (name : Option (List ℕ)) (page : ℕ)
      → option_and_then (λ n. option_and_then (λ (node : PlanNode). page_for plan.pages n (context_of node n)) found)
      name
      ≡ Some page → (node : PlanNode) × (found ≡ Some node)
  no_name at None None page is = cc
  no_name at None (Some name) page is = cc
  no_name at (Some node) name page is = (node, refl)

  pub node_within : (node : LinkNode) → IsNode world plan node → node.at < length plan.nodes
  node_within node is =
      let there = no_name node.at (slice_get plan.nodes node.at) (local_name (plan_target plan node.at)) node.page
      (node_page node is) in
      slice_get_within plan.nodes node.at there.0 there.1

  pub nodes_are : (ats : List ℕ) → All (IsNode world plan) (filter_map (link_node_at world plan) ats)
  nodes_are [] = All-nil (IsNode world plan)
  nodes_are (at ∷ ats) = by_node (link_node_at world plan at) refl (nodes_are ats)
    where
      by_node : (found : Option LinkNode) → link_node_at world plan at ≡ found
          → All (IsNode world plan) (filter_map (link_node_at world plan) ats)
          → All (IsNode world plan) (filter_map (link_node_at world plan) (at ∷ ats))
      by_node None e behind = rw e behind
      by_node (Some node) e behind =
          rw e (All-cons (IsNode world plan) node (filter_map (link_node_at world plan) ats)
          (found_node at node e) behind)

-- Nodes in order

abbrev pub RiseFrom : ℕ → List LinkNode → Type 0
RiseFrom from [] = Unit {0}
RiseFrom from (node ∷ nodes) = (from ≤ node.at) × RiseFrom node.at nodes

pub rise_later : (from later : ℕ) (nodes : List LinkNode) → from ≤ later → RiseFrom later nodes → RiseFrom from nodes
rise_later from later [] less rise = tt
rise_later from later (node ∷ nodes) less rise = (omega (arith, less, rise.0), rise.1)

pub rise_any : (from at : ℕ) (nodes : List LinkNode) → RiseFrom from nodes → list_any (is_place at) nodes ≡ true
    → from ≤ at
rise_any from at [] rise among = cc
rise_any from at (node ∷ nodes) rise among = by_same (λ there. rise_any node.at at nodes rise.1 there)
    (node.at == at) refl
  where
    by_same : (list_any (is_place at) nodes ≡ true → node.at ≤ at) → (b : Bool) → (node.at == at) ≡ b → from ≤ at
    by_same behind true e = let same = eqb-true node.at at e in omega (arith, rise.0, same)
    by_same behind false e = let later = behind (rw e at among) in omega (arith, rise.0, later)

module _ (p : ℕ → Bool) (h : ℕ → Option LinkNode)
    (placed : (at : ℕ) (node : LinkNode) → h at ≡ Some node → node.at ≡ at)
  where
    pub nodes_rise : (from : ℕ) (xs : List PlanNode) → RiseFrom from (filter_map h (filter p (places_from from xs)))
    nodes_rise from [] = tt
    nodes_rise from (x ∷ xs) =
        by_test (nodes_rise (from + 1) xs) (p from) refl
      where
        by_node : RiseFrom (from + 1) (filter_map h (filter p (places_from (from + 1) xs))) → (found : Option LinkNode)
            → h from ≡ found → RiseFrom from (filter_map h (from ∷ filter p (places_from (from + 1) xs)))
        by_node behind None e =
            rw e (rise_later from (from + 1) (filter_map h (filter p (places_from (from + 1) xs))) (omega arith) behind)
        by_node behind (Some node) e =
            let same = placed from node e in
            rw e (
              omega (arith, same),
              rise_later node.at (from + 1) (filter_map h (filter p (places_from (from + 1) xs)))
                  (omega (arith, same)) behind,
            )

        by_test : RiseFrom (from + 1) (filter_map h (filter p (places_from (from + 1) xs))) → (b : Bool) → p from ≡ b
            → RiseFrom from (filter_map h (filter p (places_from from (x ∷ xs))))
        by_test behind true e = rw e (by_node behind (h from) refl)
        by_test behind false e =
            rw e (rise_later from (from + 1) (filter_map h (filter p (places_from (from + 1) xs))) (omega arith) behind)

    -- their places
    pub places_of : (q : ℕ → Bool) → ((at : ℕ) → h at ≡ None → q at ≡ false)
        → ((at : ℕ) (node : LinkNode) → h at ≡ Some node → q at ≡ true) → (ats : List ℕ)
        → filter (λ at. p at && q at) ats ≡ map place_of (filter_map h (filter p ats))
    places_of q none some [] = refl
    places_of q none some (at ∷ ats) = by_test (places_of q none some ats) (p at) refl
      where
        by_node : filter (λ at. p at && q at) ats ≡ map place_of (filter_map h (filter p ats))
            → (found : Option LinkNode)
            → h at ≡ found → (if q at then at ∷ filter (λ at. p at && q at) ats else filter (λ at. p at && q at) ats)
            ≡ map place_of (filter_map h (at ∷ filter p ats))
        by_node behind None e = let f = none at e in rw (f, e) behind
        by_node behind (Some node) e =
            let f = some at node e in
            rw (f, e) (λ i. sym (placed at node e) i ∷ behind i)

        by_test : filter (λ at. p at && q at) ats ≡ map place_of (filter_map h (filter p ats)) → (b : Bool) → p at ≡ b
            → filter (λ at. p at && q at) (at ∷ ats) ≡ map place_of (filter_map h (filter p (at ∷ ats)))
        by_test behind true e = rw e (by_node behind (h at) refl)
        by_test behind false e = rw e behind

rises : (from : ℕ) (nodes : List LinkNode) → IsNonDecreasingBy place_of nodes
    → ((d : LinkNode) → 0 < length nodes → from ≤ (get_or nodes zero d).at) → RiseFrom from nodes
rises from [] sorted least = tt
rises from (node ∷ nodes) sorted least = (
  least node (omega arith),
  rises node.at nodes
      (λ i j d low high. sorted (suc i) (suc j) d (omega (arith, low)) (omega (arith, high)))
      (λ d some. sorted zero (suc zero) d (omega arith) (omega (arith, some))),
)

pub sorted_rise : (nodes : List LinkNode) → IsNonDecreasingBy place_of nodes → RiseFrom 0 nodes
sorted_rise nodes sorted = rises 0 nodes sorted (λ d some. omega arith)
